-- Tests that must all pass, as a loop makes them one after another.
use Rattle.std.specs.Prelude.{ℕ, zero, suc, ◌+◌, ◌<◌, Bool, true, false, ◌&&◌, ◌≡◌, refl}
use Rattle.std.proofs.Common.{sym, ap₂, le_refl, add-one}
use Rattle.std.proofs.Math.Nat.{le_step}
use Rattle.laws.specs.Search.{every}
use Rattle.laws.specs.SearchFacts.{every_iff}
use Rattle.laws.specs.Truth.{false_not_true, not_true_is_false}

pub every_next : (f : ℕ → Bool) (i : ℕ) → every f i ≡ true → f i ≡ true → every f (i + 1) ≡ true
unfolding every
every_next f i before here = rw (add-one i, before, here)

pub one_fails : (f : ℕ → Bool) (n k : ℕ) → k < n → f k ≡ false → false ≡ every f n
one_fails f n k l fails = sym (not_true_is_false (every f n) (λ all. false_not_true fails ((every_iff f n).0 all k l)))

pub every_same : (f g : ℕ → Bool) (n : ℕ) → ((k : ℕ) → k < n → f k ≡ g k) → every f n ≡ every g n
unfolding every
every_same f g zero same = refl
every_same f g (suc n) same = ap₂ ◌&&◌ (every_same f g n (λ k l. same k (le_step l))) (same n (le_refl (suc n)))
