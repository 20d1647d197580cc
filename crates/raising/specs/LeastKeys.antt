-- The least key of a set's patterns is the set's weight: level 1 for each of its items.
use Rattle.std.specs.Prelude.{ℕ, suc, ◌^◌, ◌≤◌, ◌<◌, Bool, true, false, List, [], ◌∷◌, ◌⊎◌, ◌≡◌, refl, length}
use Rattle.std.proofs.Common.{inl, inr, mul-le-mul_right, arith}
use Rattle.laws.specs.Below.{lt_or_le}
use Rattle.assignment.specs.Assignment.{Options}
use Rattle.assignment.specs.CoreTables.{pattern_worth, Keyed}
use Rattle.assignment.specs.Keeping.{Keeps, done, refused, kept}
use Rattle.assignment.specs.KeyLaws.{keeps_length}
use Rattle.assignment.specs.Keys.{key_base, plan_key, weight}
use Rattle.assignment.specs.Values.{pair, AtMost, cheaper, tied}
use Rattle.partition.specs.MoveLaws.{weight_below}

unfoldable ones : List Bool → List ℕ
ones [] = []
ones (false ∷ S) = 0 ∷ ones S
ones (true ∷ S) = 1 ∷ ones S

ones_kept : {levels : ℕ} → 1 ≤ levels → (S : List Bool) → Keeps levels S (ones S)
unfolding ones
ones_kept some [] = done
ones_kept some (false ∷ S) = refused (ones_kept some S)
ones_kept some (true ∷ S) = kept 0 some (ones_kept some S)

key_of_ones : {levels : ℕ} → 1 ≤ levels → (S : List Bool) → plan_key (ones S) ≡ weight S
unfolding ones plan_key weight
key_of_ones some [] = refl
key_of_ones some (false ∷ S) = omega (arith, key_of_ones some S)
key_of_ones some (true ∷ S) = rw (keeps_length (ones_kept some S)) (omega (arith, key_of_ones some S))

pub weight_keyed : {levels : ℕ} → 1 ≤ levels → (S : List Bool) (cost : ℕ) → Keyed levels S (pair cost (weight S))
weight_keyed some S cost = rw (← key_of_ones some S) (Keyed.present cost (ones_kept some S))

pub weight_digits : {n : ℕ} (S : List Bool) → length S ≡ n → weight S < key_base ^ n
unfolding key_base
weight_digits S of_items = let one_digit : 1 < 33 = omega arith in omega (arith, rw of_items at (weight_below one_digit S))

least_key : {levels : ℕ} {S : List Bool} {pattern : List ℕ} → Keeps levels S pattern → weight S ≤ plan_key pattern
unfolding plan_key weight
least_key done = omega arith
least_key (refused keeps) = omega (arith, least_key keeps)
least_key {S = true ∷ S} (kept d h keeps) =
    let some : 1 ≤ suc d = omega arith in
    rw (keeps_length keeps) (omega (arith, least_key keeps, mul-le-mul_right (key_base ^ length S) some))

-- with a cost that no pattern of the set is below, no pattern comes before it
pub weight_first : (o : Options) {S : List Bool} {pattern : List ℕ} {cost : ℕ} → Keeps o.levels S pattern → cost ≤ o.core_cost pattern →
    AtMost (pair cost (weight S)) (pattern_worth o pattern)
unfolding pattern_worth
weight_first o {S} {pattern} {cost} keeps at_most = go (lt_or_le cost (o.core_cost pattern))
  where
    go : (cost < o.core_cost pattern) ⊎ (o.core_cost pattern ≤ cost) → AtMost (pair cost (weight S)) (pair (o.core_cost pattern) (plan_key pattern))
    go (inl less) = cheaper less
    go (inr more) = tied {a = cost} {b = o.core_cost pattern} (omega arith) (least_key keeps)
