-- What is summed over a core's kept tasks is summed over all: a task that is not kept there adds nothing.
use Rattle.std.specs.Prelude.{ℕ, zero, suc, ◌+◌, ◌*◌, ◌/◌, ◌≤◌, ◌<◌, Bool, true, false, List, ◌≡◌, get_or}
use Rattle.std.proofs.Common.{⊎_elim, sym, ap, ◌∙◌, eq-zero-or-pos, eq-or-lt_of_le, le_of_suc-le-suc, le_trans, mul-le-mul_right, mul-zero, arith}
use Rattle.std.proofs.Math.Path.{refl}
use Rattle.laws.specs.Below.{lt_or_le}
use Rattle.laws.specs.SumBounds.{sum_and_next_at_most}
use Rattle.laws.specs.SumLaws.{sum_zero}
use Rattle.laws.specs.Sums.{sum}
use Rattle.ranges.specs.Limits.{most_tasks}
use Rattle.instance.specs.Node.{Problem, task_count, span}
use Rattle.instance.specs.Valid.{Valid}
use Rattle.plan_rules.specs.KeptColumns.{KeptColumns, place_of}
use Rattle.plan_rules.specs.KeptColumnLaws.{is_task}
use Rattle.plan_rules.specs.Quantities.{keeps, ticks_on, jobs, load_on, core_load}
use Rattle.plan_rules.specs.declared.columns.KeptTasks.{KeptTasks}

-- terms that are 0 add nothing
sum_without_rest : (f : ℕ → ℕ) (n m : ℕ) → n ≤ m → ((i : ℕ) → n ≤ i → i < m → f i ≡ 0) → sum f n ≡ sum f m
unfolding sum
sum_without_rest f n zero l none = let e : n ≡ 0 = omega arith in ap (sum f) e
sum_without_rest f n (suc m) l none =
    ⊎_elim
    (λ (e : n ≡ suc m). ap (sum f) e)
    (λ (below : n < suc m).
    let from = le_of_suc-le-suc below in
    omega (arith, sum_without_rest f n m from (λ i b h. none i b (omega arith)), none m from (omega arith)))
    (eq-or-lt_of_le l)

-- places in ascending order, with every place where f is not 0 among them
sum_over_places : (f place : ℕ → ℕ) (n m : ℕ) → ((j : ℕ) → j < n → place j < m) → ((i j : ℕ) → i < j → j < n → place i < place j) →
    ((i : ℕ) → i < m → 0 < f i → (j : ℕ) × (j < n) × (place j ≡ i)) → sum (λ j. f (place j)) n ≡ sum f m
unfolding sum
sum_over_places f place zero m inside ascending every =
    sym (sum_zero f m (λ i l. ⊎_elim (λ none. none) (λ some. let at = every i l some in absurd (omega (arith, at.1))) (eq-zero-or-pos (f i))))
sum_over_places f place (suc n) m inside ascending every =
    let last = place n in
    let before : sum (λ j. f (place j)) n ≡ sum f last =
    sum_over_places f place n last (λ j l. ascending j n l (omega arith)) (λ i j l b. ascending i j l (omega arith))
    (λ i l some.
    let at = every i (omega (arith, inside n (omega arith))) some in (
      at.0,
      ⊎_elim (λ b. b)
          (λ (from : n ≤ at.0). let e : at.0 ≡ n = omega (arith, at.1) in absurd (omega (arith, at.2, ap place e)))
          (lt_or_le at.0 n),
      at.2,
    )) in
    let rest : sum f (suc last) ≡ sum f m =
    sum_without_rest f (suc last) m (inside n (omega arith))
    (λ i from l.
    ⊎_elim (λ none. none)
    (λ some.
    let at = every i l some in
    ⊎_elim
    (λ (b : at.0 < n). absurd (omega (arith, at.2, ascending at.0 n b (omega arith))))
    (λ (b : n ≤ at.0). let e : at.0 ≡ n = omega (arith, at.1) in absurd (omega (arith, at.2, ap place e)))
    (lt_or_le at.0 n))
    (eq-zero-or-pos (f i))) in
    ap (λ (t : ℕ). t + f last) before ∙ rest

-- the sum over the first n that are kept
abbrev pub sum_of_kept : KeptTasks → (ℕ → ℕ) → ℕ → ℕ
sum_of_kept kept f n = sum (λ j. f (place_of kept j)) n

module _ (p : Problem) (plan : List ℕ) (k : ℕ) (kept : KeptTasks) (columns : KeptColumns p plan k (task_count p) kept) where
  pub sum_over_kept : (f : ℕ → ℕ) → ((i : ℕ) → keeps p plan k i ≡ false → f i ≡ 0) → sum_of_kept kept f kept.count ≡ sum f (task_count p)
  sum_over_kept f none =
      sum_over_places f (place_of kept) kept.count (task_count p) (is_task p plan k kept columns)
      (λ i j before l. omega (arith, columns.ascending i j before l, (columns.held i (omega arith)).above_0, (columns.held j l).above_0))
      (λ i l some. let at = columns.every_kept i l (is_kept i some (keeps p plan k i) refl) in (at.0, at.1, omega (arith, at.2)))
    where
      is_kept : (i : ℕ) → 0 < f i → (its : Bool) → keeps p plan k i ≡ its → keeps p plan k i ≡ true
      is_kept i some true e = e
      is_kept i some false e = absurd (omega (arith, none i e))

  -- a sum that is not yet complete, and its next term
  pub sum_of_kept_at_most : Valid p → (f : ℕ → ℕ) (b : ℕ) → ((i : ℕ) → i < task_count p → f i ≤ b) → (j : ℕ) → j < kept.count →
      sum_of_kept kept f j + f (place_of kept j) ≤ most_tasks * b
  sum_of_kept_at_most v f b bounded j l =
      le_trans
      (sum_and_next_at_most (λ j. f (place_of kept j)) b kept.count j (λ j l. bounded (place_of kept j) (is_task p plan k kept columns j l)) l)
      (mul-le-mul_right b (omega (arith, columns.no_more, v.task_count_bound)))

  pub unkept_load : (i : ℕ) → keeps p plan k i ≡ false → load_on p plan k i ≡ 0
  unfolding load_on ticks_on
  unkept_load i e = rw e (mul-zero (jobs p i))

  pub load_over_kept : sum_of_kept kept (load_on p plan k) kept.count ≡ core_load p plan k
  unfolding core_load
  load_over_kept = sum_over_kept (load_on p plan k) unkept_load

  module _ (j : ℕ) (l : j < kept.count) where
    pub load_in_columns : (w : ℕ) → w ≡ span p → w / get_or kept.periods j 0 * get_or kept.ticks j 0 ≡ load_on p plan k (place_of kept j)
    unfolding load_on jobs
    load_in_columns w wide = rw (wide, (columns.held j l).same_period, (columns.held j l).same_ticks) refl
