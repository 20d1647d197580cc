-- How many items a set has, by its number.
use Rattle.std.specs.Prelude.{ℕ, zero, suc, ◌+◌, ◌/◌, ◌%◌, ◌^◌, ◌≤◌, ◌<◌, ◌≡◌, refl, ◌⊎◌, Bool, true, false, cond, List, [], ◌∷◌, length}
use Rattle.std.proofs.Common.{ap, ◌∙◌, inl, inr, zero-add, pow-suc, arith}
use Rattle.std.proofs.Math.Nat.{pow-zero}
use Rattle.laws.specs.Below.{lt_or_le}
use Rattle.assignment.specs.Sets.{set_number}
use Rattle.assignment.specs.SetLaws.{set_number-below}
use Rattle.knapsack.specs.SetNumberLaws.{half_number}
use Rattle.core_tables.specs.AwakeCores.{size}

-- the items of set number x of n items
unfoldable pub items_in : (n x : ℕ) → ℕ
items_in zero x = 0
items_in (suc n) x = items_in n (x / 2) + x % 2

-- the first item's bit stands above all others
items_in-first : (b : Bool) (n r : ℕ) → r < 2 ^ n → items_in (suc n) (cond b (2 ^ n) 0 + r) ≡ cond b 1 0 + items_in n r
unfolding items_in
items_in-first true zero r small = omega (arith, pow-zero 2)
items_in-first false zero r small = omega (arith, pow-zero 2)
items_in-first true (suc n) r small =
    rw (half_number true n r) (omega (arith, pow-suc 2 n, items_in-first true n (r / 2) (omega (arith, pow-suc 2 n))))
items_in-first false (suc n) r small =
    rw (half_number false n r) (omega (arith, pow-suc 2 n, items_in-first false n (r / 2) (omega (arith, pow-suc 2 n))))

pub items_in-set : (n : ℕ) (T : List Bool) → length T ≡ n → items_in n (set_number n T) ≡ size T
unfolding set_number size items_in
items_in-set zero [] of_items = refl
items_in-set zero (b ∷ T) of_items = absurd (omega arith)
items_in-set (suc n) [] of_items = absurd (omega arith)
items_in-set (suc n) (b ∷ T) of_items =
    items_in-first b n (set_number n T) (set_number-below n T) ∙ ap (λ (k : ℕ). cond b 1 0 + k) (items_in-set n T (omega arith))

without_first : (n r : ℕ) → r < 2 ^ n → items_in (suc n) r ≡ items_in n r
without_first n r small = rw (zero-add r, zero-add (items_in n r)) at (items_in-first false n r small)

by_last : (n x : ℕ) → items_in n (x / 2) + x % 2 ≡ items_in (suc n) x
unfolding items_in
by_last n x = refl

-- those of half the number, and the last item
pub items_in-half : (n x : ℕ) → 1 ≤ x → x < 2 ^ n → items_in n (x / 2) + x % 2 ≡ items_in n x
items_in-half zero x some under = absurd (omega (arith, pow-zero 2))
items_in-half (suc n) x some under =
    ap (λ (k : ℕ). k + x % 2) (without_first n (x / 2) (omega (arith, pow-suc 2 n))) ∙ by_last n x

pub items_in-empty : (n : ℕ) → items_in n 0 ≡ 0
unfolding items_in
items_in-empty zero = refl
items_in-empty (suc n) = omega (arith, items_in-empty n)

pub items_in-some : (n x : ℕ) → 1 ≤ x → x < 2 ^ n → 1 ≤ items_in n x
unfolding items_in
items_in-some zero x some under = absurd (omega (arith, pow-zero 2))
items_in-some (suc n) x some under = go (lt_or_le x 2) (items_in-some n (x / 2))
  where
    go : (x < 2) ⊎ (2 ≤ x) → (1 ≤ x / 2 → x / 2 < 2 ^ n → 1 ≤ items_in n (x / 2)) → 1 ≤ items_in n (x / 2) + x % 2
    go (inl last) ih = omega arith
    go (inr more) ih = omega (arith, ih (omega arith) (omega (arith, pow-suc 2 n)))

pub items_in-at_most : (n x : ℕ) → items_in n x ≤ n
unfolding items_in
items_in-at_most zero x = omega arith
items_in-at_most (suc n) x = omega (arith, items_in-at_most n (x / 2))
