-- What `every`, `first` and `count` tell of each number below n, and the other way.
use Rattle.std.specs.Prelude.{ℕ, zero, suc, ◌≤◌, ◌<◌, Bool, true, false, ◌↔◌, ◌≡◌, refl}
use Rattle.std.proofs.Common.{not-suc-le-zero, le_refl, arith}
use Rattle.laws.specs.Below.{below_suc}
use Rattle.laws.specs.FirstLaws.{first_is_first, first_unique}
use Rattle.laws.specs.Search.{first, every, count}
use Rattle.laws.specs.Truth.{and_is_true}

every_to_below : (f : ℕ → Bool) (n : ℕ) → every f n ≡ true → (k : ℕ) → k < n → f k ≡ true
unfolding every
every_to_below f zero e k h = absurd (not-suc-le-zero h)
every_to_below f (suc n) e k h =
    let both = (and_is_true (every f n) (f n)).0 e in
    below_suc (λ m. f m ≡ true) n (every_to_below f n both.0) both.1 k h

below_to_every : (f : ℕ → Bool) (n : ℕ) → ((k : ℕ) → k < n → f k ≡ true) → every f n ≡ true
unfolding every
below_to_every f zero all = refl
below_to_every f (suc n) all =
    rw (below_to_every f n (λ k h. all k (omega arith)), all n (le_refl (suc n)))

pub every_iff : (f : ℕ → Bool) (n : ℕ) → (every f n ≡ true) ↔ ((k : ℕ) → k < n → f k ≡ true)
every_iff f n = (every_to_below f n, below_to_every f n)

-- the search came to the end: none passed
pub first_at_end : (f : ℕ → Bool) (n : ℕ) → n ≤ first f n → (k : ℕ) → k < n → f k ≡ false
first_at_end f n past k h = (first_is_first f n).none_below k (omega arith)

pub first_of_none : (f : ℕ → Bool) (n : ℕ) → ((k : ℕ) → k < n → f k ≡ false) → first f n ≡ n
first_of_none f n none =
    first_unique f (record { at_most = le_refl n; none_below = none; passes_below = λ l. absurd (omega arith) })

pub count_same : (f g : ℕ → Bool) (n : ℕ) → ((k : ℕ) → k < n → f k ≡ g k) → count f n ≡ count g n
unfolding count
count_same f g zero same = refl
count_same f g (suc n) same =
    rw (count_same f g n (λ k h. same k (omega arith)), same n (le_refl (suc n)))

pub count_of_none : (f : ℕ → Bool) (n : ℕ) → ((k : ℕ) → k < n → f k ≡ false) → count f n ≡ 0
unfolding count
count_of_none f zero none = refl
count_of_none f (suc n) none =
    rw (count_of_none f n (λ k h. none k (omega arith)), none n (le_refl (suc n)))
