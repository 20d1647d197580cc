-- Laws of counts.
use Rattle.std.specs.Prelude.{ℕ, zero, suc, ◌+◌, ◌-◌, ◌*◌, ◌≤◌, ◌<◌, Bool, true, false, cond, not, ◌⊎◌, ◌≡◌, refl, eqb}
use Rattle.std.proofs.Common.{zero-le, inl, inr, ap, ◌∙◌, le_refl, add-zero, add-suc, mul-le-mul_right, suc-mul, zero-mul, arith, eqb-true, eq-eqb, ne_eqb}
use Rattle.std.proofs.Math.Nat.{le_step, le_dest}
use Rattle.laws.specs.Search.{count}
use Rattle.laws.specs.SearchFacts.{count_of_none}
use Rattle.laws.specs.Sums.{sum}
use Rattle.laws.specs.SumLaws.{sum_add, sum_zero}
use Rattle.laws.specs.SumOrderLaws.{sum_of_one_term}

-- the first a, then the next b
pub count_split : (p : ℕ → Bool) (a b : ℕ) → count p (a + b) ≡ count p a + count (λ x. p (a + x)) b
unfolding count
count_split p a zero = rw (add-zero a) (omega arith)
count_split p a (suc b) = rw add-suc (omega (arith, count_split p a b))

pub count_is_sum : (p : ℕ → Bool) (n : ℕ) → count p n ≡ sum (λ x. cond (p x) 1 0) n
unfolding count sum
count_is_sum p zero = refl
count_is_sum p (suc n) = omega (arith, count_is_sum p n)

pub count_mono : (p : ℕ → Bool) (m n : ℕ) → m ≤ n → count p m ≤ count p n
count_mono p m n l = let rest = le_dest l in rw (← rest.1) (rw count_split (omega arith))

pub none_counted : (p : ℕ → Bool) (n : ℕ) → count p n ≡ 0 → (k : ℕ) → k < n → p k ≡ false
unfolding count
none_counted p n none k l = go (p k) refl (count_mono p (suc k) n l)
  where
    go : (b : Bool) → p k ≡ b → count p k + cond (p k) 1 0 ≤ count p n → p k ≡ false
    go true e some = let one = rw e at some in absurd (omega arith)
    go false e some = e

-- none passes from d on
pub count_of_front : (q : ℕ → Bool) (d p : ℕ) → d ≤ p → ((x : ℕ) → d ≤ x → x < p → q x ≡ false) → count q p ≡ count q d
count_of_front q d p l none =
    let whole : d + (p - d) ≡ p = omega arith in
    let after : count (λ x. q (d + x)) (p - d) ≡ 0 = count_of_none _ _ (λ x h. none (d + x) (omega arith) (omega arith)) in
    omega (arith, ap (count q) whole, count_split q d (p - d))

-- m windows of length d, one in each p, all before x: if each has c or more, all have m times c or more
pub windows_le_count : (q : ℕ → Bool) (p d c m x : ℕ) → d ≤ p → ((j : ℕ) → j < m → j * p + d ≤ x) →
    ((j : ℕ) → j < m → c ≤ count (λ t. q (j * p + t)) d) → m * c ≤ count q x
windows_le_count q p d c zero x inside before each = omega arith
windows_le_count q p d c (suc m) x inside before each =
    let earlier = windows_le_count q p d c m (m * p) inside ends_before (λ j l. each j (le_step l)) in
    let all = count_mono q (m * p + d) x (before m (le_refl (suc m))) in
    omega (arith, earlier, all, count_split q (m * p) d, each m (le_refl (suc m)))
  where
    ends_before : (j : ℕ) → j < m → j * p + d ≤ m * p
    ends_before j l = omega (arith, mul-le-mul_right p l)

-- a slot holds one number
one_number : (v n : ℕ) → sum (λ i. cond (eqb v (suc i)) 1 0) n ≤ 1
unfolding sum
one_number v zero = zero-le
one_number v (suc n) = go (eqb v (suc n)) refl (one_number v n)
  where
    other : v ≡ suc n → (i : ℕ) → i < n → ◌≡◌ {A = ℕ} (cond (eqb v (suc i)) 1 0) 0
    other e i l = rw (ne_eqb v (suc i) (λ e₂. omega arith))

    go : (b : Bool) → eqb v (suc n) ≡ b → sum (λ i. cond (eqb v (suc i)) 1 0) n ≤ 1 →
        sum (λ i. cond (eqb v (suc i)) 1 0) n + cond (eqb v (suc n)) 1 0 ≤ 1
    go true e ih = rw (e, sum_zero (λ i. cond (eqb v (suc i)) 1 0) n (other (eqb-true v (suc n) e))) (le_refl 1)
    go false e ih = rw e (omega arith)

-- the slots that hold one of the numbers 1 to n are no more than the slots
pub count_by_number : (slots : ℕ → ℕ) (n x : ℕ) → sum (λ i. count (λ t. eqb (slots t) (suc i)) x) n ≤ x
unfolding count
count_by_number slots n zero = omega (arith, sum_zero (λ i. 0) n (λ i l. refl))
count_by_number slots n (suc x) =
    rw (sum_add (λ i. count (λ t. eqb (slots t) (suc i)) x) (λ i. cond (eqb (slots x) (suc i)) 1 0) n)
    (omega (arith, count_by_number slots n x, one_number (slots x) n))

-- where some pass, one can be named
pub some_counted : (p : ℕ → Bool) (n : ℕ) → 0 < count p n → (k : ℕ) × (k < n) × (p k ≡ true)
unfolding count
some_counted p zero above = absurd (omega arith)
some_counted p (suc n) above = let earlier = some_counted p n in go (p n) refl earlier above
  where
    go : (b : Bool) → p n ≡ b → (0 < count p n → (k : ℕ) × (k < n) × (p k ≡ true)) → 0 < count p n + cond b 1 0 →
        (k : ℕ) × (k < suc n) × (p k ≡ true)
    go true e earlier above = (n, le_refl (suc n), e)
    go false e earlier above = let found = earlier (omega arith) in (found.0, le_step found.1, found.2)

pub count_of_others : (p : ℕ → Bool) (n : ℕ) → count (λ x. not (p x)) n + count p n ≡ n
unfolding count
count_of_others p zero = refl
count_of_others p (suc n) = go (p n) (count_of_others p n)
  where
    go : (b : Bool) → count (λ x. not (p x)) n + count p n ≡ n → (count (λ x. not (p x)) n + cond (not b) 1 0) + (count p n + cond b 1 0) ≡ suc n
    go true before = omega arith
    go false before = omega arith

-- m periods, each with c
pub count_of_periods : (q : ℕ → Bool) (p c m : ℕ) → ((j : ℕ) → j < m → count (λ x. q (j * p + x)) p ≡ c) → count q (m * p) ≡ m * c
unfolding count
count_of_periods q p c zero each = rw (zero-mul p) (omega arith)
count_of_periods q p c (suc m) each =
    let before = count_of_periods q p c m (λ j l. each j (le_step l)) in
    rw suc-mul (omega (arith, count_split q (m * p) p, before, each m (le_refl (suc m))))

-- a slot that holds one of the numbers 1 to n
pub record Numbered (n v : ℕ) : Type 0 where
  pub index : ℕ
  pub within : index < n
  pub is_next : v ≡ suc index

numbered_once : (n v : ℕ) → (v ≡ 0) ⊎ Numbered n v → sum (λ i. cond (eqb v (suc i)) 1 0) n ≡ cond (not (eqb v 0)) 1 0
numbered_once n v (inl none) =
    rw (eq-eqb v 0 none) (sum_zero (λ i. cond (eqb v (suc i)) 1 0) n (λ i l. rw (ne_eqb v (suc i) (λ e. omega arith)) refl))
numbered_once n v (inr some) =
    sum_of_one_term (λ i. cond (eqb v (suc i)) 1 0) n some.index some.within
    (λ j l other. rw (ne_eqb v (suc j) (λ e. other (omega (arith, some.is_next)))) refl)
    ∙ rw (eq-eqb v (suc some.index) some.is_next, ne_eqb v 0 (λ e. omega (arith, some.is_next))) refl

-- the slots that hold a number, counted number by number
pub count_of_numbered : (slots : ℕ → ℕ) (n x : ℕ) → ((t : ℕ) → t < x → (slots t ≡ 0) ⊎ Numbered n (slots t)) →
    sum (λ i. count (λ t. eqb (slots t) (suc i)) x) n ≡ count (λ t. not (eqb (slots t) 0)) x
unfolding count
count_of_numbered slots n zero each = sum_zero (λ i. 0) n (λ i l. refl)
count_of_numbered slots n (suc x) each =
    let before = count_of_numbered slots n x (λ t l. each t (le_step l)) in
    rw (sum_add (λ i. count (λ t. eqb (slots t) (suc i)) x) (λ i. cond (eqb (slots x) (suc i)) 1 0) n)
    (omega (arith, before, numbered_once n (slots x) (each x (le_refl (suc x)))))
