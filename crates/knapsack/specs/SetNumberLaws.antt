-- A set is read back off its number, and the knapsacks of all numbers are those of all sets.
use Rattle.std.specs.Prelude.{ℕ, zero, suc, ◌+◌, ◌/◌, ◌%◌, ◌^◌, ◌<◌, ◌≡◌, refl, Bool, true, false, cond, List, [], ◌∷◌, length}
use Rattle.std.proofs.Common.{ap, ◌∙◌, append-nil, zero-add, pow-suc, arith}
use Rattle.knapsack.specs.Knapsacks.{knapsack}
use Rattle.assignment.specs.Values.{pair}
use Rattle.knapsack.specs.Offered.{offer_at, offers_of}
use Rattle.knapsack.specs.KnapsackSteps.{has_last, knapsack_before, set_before, knapsack_before-knapsack}
use Rattle.assignment.specs.Sets.{set_number}
use Rattle.assignment.specs.SetLaws.{set_number-below}

-- the first item's bit stands above all others

pub half_number : (b : Bool) (n r : ℕ) → (cond b (2 ^ suc n) 0 + r) / 2 ≡ cond b (2 ^ n) 0 + r / 2
half_number true n r = omega (arith, pow-suc 2 n)
half_number false n r = omega arith

pub last_of_number : (b : Bool) (n r : ℕ) → has_last (cond b (2 ^ suc n) 0 + r) ≡ has_last r
unfolding has_last
last_of_number true n r =
    let same : (2 ^ suc n + r) % 2 ≡ r % 2 = omega (arith, pow-suc 2 n) in
    rw same
last_of_number false n r = rw zero-add

set_before-first : (b : Bool) (n r : ℕ) (T : List Bool) → r < 2 ^ n →
    set_before (suc n) (cond b (2 ^ n) 0 + r) T ≡ b ∷ set_before n r T
unfolding set_before has_last
set_before-first true zero r T small = let none : r ≡ 0 = omega arith in rw none
set_before-first false zero r T small = let none : r ≡ 0 = omega arith in rw none
set_before-first b (suc n) r T small =
    rw (half_number b n r, last_of_number b n r) (set_before-first b n (r / 2) (has_last r ∷ T) (omega (arith, pow-suc 2 n)))

set_of_number : (n : ℕ) (S : List Bool) → length S ≡ n → set_before n (set_number n S) [] ≡ S
unfolding set_number set_before
set_of_number zero [] e = refl
set_of_number zero (b ∷ S) e = absurd (omega arith)
set_of_number (suc n) [] e = absurd (omega arith)
set_of_number (suc n) (b ∷ S) e =
    set_before-first b n (set_number n S) [] (set_number-below n S) ∙ ap (◌∷◌ b) (set_of_number n S (omega arith))

pub knapsack_before-set : (levels : ℕ) (load cost : List ℕ) (n : ℕ) (S : List Bool) → length S ≡ n →
    knapsack_before levels (offer_at load cost) n 0 (set_number n S) (λ w. pair 0 0) ≡ knapsack levels (offers_of load cost n) S
unfolding knapsack offers_of
knapsack_before-set levels load cost n S e =
    knapsack_before-knapsack levels (offer_at load cost) n (set_number n S) [] [] ∙ rw (append-nil, set_of_number n S e)
