-- How a call ends by what its tests answer, and what an ending tells of the lent buffers.
use Rattle.std.specs.Prelude.{ℕ, ◌<◌, ◌≡◌, refl, length, drop, Err}
use mathlib.Core.List.Memᴰ
use mathlib.Core.List.{List, [], ◌∷◌, ◌++◌, Memᴰ}
use Rattle.std.proofs.Common.{ap, arith}
use Rattle.refusals.specs.Endings.{Lent, lent, Unchanged, FrontWritten, Every, ServedOrRefused, served, refused, Ends}
use Rattle.refusals.specs.RefusalNumbers.{RefusesOnly, accepts, refuses, number_above_zero}
use Rattle.refusals.specs.Refusals.{Answer, number_of, answer_of, Verdict, accepted}
use Rattle.refusals.specs.declared.Refusal.{Refusal}

pub unchanged : {n : ℕ} {buffer : List ℕ} → Unchanged (lent n buffer buffer)
unchanged = record { as_before = refl }

module _ {numbers : List ℕ} {buffers : List Lent} where
  pub serves : Every FrontWritten buffers → Ends accepted numbers buffers accepted
  serves written = record { as_tested = refl; ending = served written }

  pub turns_down : {r : Refusal} → Memᴰ (number_of r) numbers → Every Unchanged buffers → Ends (Err r) numbers buffers (Err r)
  turns_down listed same = record { as_tested = refl; ending = refused listed same }

-- a call that writes nothing
pub ends_as_tested : {v : Verdict} {others : List ℕ} (first : List ℕ) → RefusesOnly others v → Ends v (first ++ others) [] v
ends_as_tested first accepts = serves tt
ends_as_tested first (refuses m) = turns_down (Memᴰ.append_right first m) tt

number_above_zero_leaves : {numbers : List ℕ} {buffers : List Lent} {a : Answer} →
    ServedOrRefused numbers buffers a → 0 < a.number → Every Unchanged buffers
number_above_zero_leaves (served written) above = absurd (omega arith)
number_above_zero_leaves (refused listed same) above = same

pub refused_leaves : {numbers : List ℕ} {buffers : List Lent} {v : Verdict} {r : Refusal} →
    ServedOrRefused numbers buffers (answer_of v) → v ≡ Err r → Every Unchanged buffers
refused_leaves {r = r} ending e = number_above_zero_leaves ending (rw e (number_above_zero r))

unchanged_is_front_written : (buffers : List Lent) → Every Unchanged buffers → Every FrontWritten buffers
unchanged_is_front_written [] same = tt
unchanged_is_front_written (b ∷ buffers) same = (
  record {
    same_length = ap length same.0.as_before;
    rest_as_before = ap (λ (xs : List ℕ). drop b.needs xs) same.0.as_before;
  },
  unchanged_is_front_written buffers same.1,
)

-- in either case
pub front_at_most : {numbers : List ℕ} {buffers : List Lent} {a : Answer} → ServedOrRefused numbers buffers a → Every FrontWritten buffers
front_at_most (served written) = written
front_at_most {buffers = buffers} (refused listed same) = unchanged_is_front_written buffers same
