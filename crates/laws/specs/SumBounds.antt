-- Bounds of finite sums.
use Rattle.std.specs.Prelude.{ℕ, zero, suc, ◌+◌, ◌*◌, ◌≤◌, ◌<◌}
use Rattle.std.proofs.Common.{le_trans, mul-le-mul_left, mul-le-mul_right, suc-mul, arith}
use Rattle.laws.specs.Sums.{sum}

pub sum_at_most : (f : ℕ → ℕ) (b n : ℕ) → ((i : ℕ) → i < n → f i ≤ b) → sum f n ≤ n * b
unfolding sum
sum_at_most f b zero h = omega arith
sum_at_most f b (suc n) h =
    rw suc-mul (omega (arith, sum_at_most f b n (λ i below. h i (omega arith)), h n (omega arith)))

-- a sum that is not yet complete, and its next term
pub sum_and_next_at_most : (f : ℕ → ℕ) (b n i : ℕ) → ((j : ℕ) → j < n → f j ≤ b) → i < n → sum f i + f i ≤ n * b
unfolding sum
sum_and_next_at_most f b n i h below =
    le_trans (sum_at_most f b (suc i) (λ j l. h j (omega arith))) (mul-le-mul_right {m = suc i} {n = n} b below)

pub sum_of_products_at_most : (f g : ℕ → ℕ) (b n : ℕ) → ((i : ℕ) → i < n → g i ≤ b) → sum (λ i. f i * g i) n ≤ sum f n * b
unfolding sum
sum_of_products_at_most f g b zero h = omega arith
sum_of_products_at_most f g b (suc n) h =
    omega (arith, sum_of_products_at_most f g b n (λ i l. h i (omega arith)), mul-le-mul_left {m = g n} {n = b} (f n) (h n (omega arith)))
