-- Sums taken in another order, sums of one term, and sums along two lists.
use Rattle.std.specs.Prelude.{ℕ, zero, suc, ◌+◌, ◌<◌, List, [], ◌∷◌, ◌≡◌, refl, length, get_or}
use Rattle.std.proofs.Common.{⊎_elim, sym, ap, ◌∙◌, le_refl, le_of_suc-le-suc, eq-or-lt_of_le, arith}
use Rattle.std.proofs.Math.Nat.{le_step, suc_inj}
use Rattle.laws.specs.SumLaws.{sum_zero, sum_add}
use Rattle.laws.specs.Sums.{sum}

pub sum_from_first : (f : ℕ → ℕ) (n : ℕ) → sum f (suc n) ≡ f 0 + sum (λ i. f (suc i)) n
unfolding sum
sum_from_first f zero = omega arith
sum_from_first f (suc n) = omega (arith, sum_from_first f n)

-- by rows or by columns
pub sum_exchange : (f : ℕ → ℕ → ℕ) (m n : ℕ) → sum (λ k. sum (f k) n) m ≡ sum (λ i. sum (λ k. f k i) m) n
unfolding sum
sum_exchange f zero n = sym (sum_zero (λ i. 0) n (λ i h. refl))
sum_exchange f (suc m) n =
    ap (λ (rows : ℕ). rows + sum (f m) n) (sum_exchange f m n) ∙ sym (sum_add (λ i. sum (λ k. f k i) m) (f m) n)

pub sum_of_one_term : (f : ℕ → ℕ) (n k : ℕ) → k < n → ((j : ℕ) → j < n → (j ≡ k → ⊥) → f j ≡ 0) → sum f n ≡ f k
unfolding sum
sum_of_one_term f zero k h others = absurd (omega arith)
sum_of_one_term f (suc n) k h others =
    ⊎_elim
    (λ (e : k ≡ n).
    let none : sum f n ≡ 0 = sum_zero f n (λ j l. others j (le_step l) (λ same. omega arith)) in
    let last : f n ≡ f k = ap f (sym e) in
    omega arith)
    (λ (l : k < n).
    let before : sum f n ≡ f k = sum_of_one_term f n k l (λ j b. others j (le_step b)) in
    let last : f n ≡ 0 = others n (le_refl (suc n)) (λ same. omega arith) in
    omega arith)
    (eq-or-lt_of_le (le_of_suc-le-suc h))

-- what adds up part by part along two lists is the sum over their indices
pub total_is_sum {ℓ} : {A : Type ℓ} (blank : A) (part : A → ℕ → ℕ) (total : List A → List ℕ → ℕ) →
    ((ns : List ℕ) → total [] ns ≡ 0) →
    ((x : A) (xs : List A) (n : ℕ) (ns : List ℕ) → total (x ∷ xs) (n ∷ ns) ≡ part x n + total xs ns) →
    (xs : List A) (ns : List ℕ) → length ns ≡ length xs → total xs ns ≡ sum (λ i. part (get_or xs i blank) (get_or ns i 0)) (length xs)
unfolding sum
total_is_sum blank part total none more [] ns e = none ns
total_is_sum blank part total none more (x ∷ xs) [] e = absurd (omega arith)
total_is_sum blank part total none more (x ∷ xs) (n ∷ ns) e =
    more x xs n ns
    ∙ ap (λ (rest : ℕ). part x n + rest) (total_is_sum blank part total none more xs ns (suc_inj e))
    ∙ sym (sum_from_first (λ i. part (get_or (x ∷ xs) i blank) (get_or (n ∷ ns) i 0)) (length xs))
