-- Laws of finite sums.
use Rattle.std.specs.Prelude.{ℕ, zero, suc, ◌+◌, ◌*◌, ◌≤◌, ◌<◌, ◌≡◌, refl}
use Rattle.std.proofs.Math.Nat.{le_step}
use Rattle.std.proofs.Common.{le_refl, add-zero, add-suc, arith}
use Rattle.laws.specs.Below.{below_suc}
use Rattle.laws.specs.Sums.{sum}

pub sum_cong : (f g : ℕ → ℕ) (n : ℕ) → ((i : ℕ) → i < n → f i ≡ g i) → sum f n ≡ sum g n
unfolding sum
sum_cong f g zero same = refl
sum_cong f g (suc n) same = cc (sum_cong f g n (λ i l. same i (le_step l)), same n (le_refl (suc n)))

pub sum_zero : (f : ℕ → ℕ) (n : ℕ) → ((i : ℕ) → i < n → f i ≡ 0) → sum f n ≡ 0
unfolding sum
sum_zero f zero none = refl
sum_zero f (suc n) none = omega (arith, sum_zero f n (λ i l. none i (le_step l)), none n (le_refl (suc n)))

pub sum_mono : (f g : ℕ → ℕ) (n : ℕ) → ((i : ℕ) → i < n → f i ≤ g i) → sum f n ≤ sum g n
unfolding sum
sum_mono f g zero below = le_refl 0
sum_mono f g (suc n) below = omega (arith, sum_mono f g n (λ i l. below i (le_step l)), below n (le_refl (suc n)))

-- one smaller term among terms that are no larger
pub sum_falls : (f g : ℕ → ℕ) (n k : ℕ) → ((i : ℕ) → i < n → f i ≤ g i) → k < n → f k < g k → sum f n < sum g n
unfolding sum
sum_falls f g zero k below l falls = absurd (omega arith)
sum_falls f g (suc n) k below l falls =
    let smaller : ℕ → Type 0 = λ i. f i < g i → sum f (suc n) < sum g (suc n) in
    let none_larger : (i : ℕ) → i < n → f i ≤ g i = λ i m. below i (le_step m) in
    below_suc
    smaller
    n
    (λ i m h. omega (arith, sum_falls f g n i none_larger m h, below n (le_refl (suc n))))
    (λ h. omega (arith, sum_mono f g n none_larger))
    k
    l
    falls

pub term_le_sum : (f : ℕ → ℕ) (n k : ℕ) → k < n → f k ≤ sum f n
unfolding sum
term_le_sum f zero k l = absurd (omega arith)
term_le_sum f (suc n) k l =
    below_suc (λ i. f i ≤ sum f (suc n)) n (λ i m. omega (arith, term_le_sum f n i m)) (omega arith) k l

pub sum_add : (f g : ℕ → ℕ) (n : ℕ) → sum (λ i. f i + g i) n ≡ sum f n + sum g n
unfolding sum
sum_add f g zero = refl
sum_add f g (suc n) = omega (arith, sum_add f g n)

pub sum_scaled : (c : ℕ) (f : ℕ → ℕ) (n : ℕ) → sum (λ i. c * f i) n ≡ c * sum f n
unfolding sum
sum_scaled c f zero = omega arith
sum_scaled c f (suc n) = omega (arith, sum_scaled c f n)

-- the first a, then the next b
pub sum_split : (f : ℕ → ℕ) (a b : ℕ) → sum f (a + b) ≡ sum f a + sum (λ i. f (a + i)) b
unfolding sum
sum_split f a zero = rw add-zero (omega arith)
sum_split f a (suc b) = rw add-suc (omega (arith, sum_split f a b))
