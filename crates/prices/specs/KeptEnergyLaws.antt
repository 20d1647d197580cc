-- The energy of a core, summed over its kept tasks.
use Rattle.std.specs.Prelude.{ℕ, zero, suc, ◌+◌, ◌-◌, ◌*◌, ◌<◌, List, ◌≡◌, ltb, get_or}
use Rattle.std.proofs.Math.Bool.{cond}
use Rattle.std.proofs.Math.Path.{refl, sym}
use Rattle.std.proofs.Common.{◌∙◌, zero-mul, arith}
use Rattle.laws.specs.SumLaws.{sum_cong}
use Rattle.laws.specs.Sums.{sum}
use Rattle.instance.specs.Node.{Problem, task_count, span}
use Rattle.plan_rules.specs.KeptColumns.{KeptColumns, place_of}
use Rattle.prices.specs.PriceBounds.{energy_on}
use Rattle.plan_rules.specs.Quantities.{keeps, load_on}
use Rattle.prices.specs.Prices.{busy_energy, kept_count, is_awake, idle_ticks, core_energy}
use Rattle.plan_rules.specs.declared.columns.KeptTasks.{KeptTasks}
use Rattle.plan_rules.specs.KeptSumLaws.{sum_over_kept, sum_of_kept, unkept_load, load_over_kept}

sum_of_ones : (n : ℕ) → sum (λ j. 1) n ≡ n
unfolding sum
sum_of_ones zero = refl
sum_of_ones (suc n) = omega (arith, sum_of_ones n)

module _ (p : Problem) (plan : List ℕ) (k : ℕ) (kept : KeptTasks) (columns : KeptColumns p plan k (task_count p) kept) where
  energy_over_kept : sum_of_kept kept (energy_on p plan k) kept.count ≡ busy_energy p plan k
  unfolding busy_energy
  energy_over_kept = sum_over_kept p plan k kept columns (energy_on p plan k) (λ i e. rw (unkept_load p plan k kept columns i e) (zero-mul _))

  -- every column's task is kept, and every kept task has a column
  count_of_kept : kept.count ≡ kept_count p plan k
  unfolding kept_count
  count_of_kept =
      sym (sum_of_ones kept.count)
      ∙ sum_cong _ _ kept.count (λ j l. rw (columns.held j l).is_kept refl)
      ∙ sum_over_kept p plan k kept columns (λ i. cond (keeps p plan k i) 1 0) (λ i e. rw e refl)

  -- what the core draws, from its columns' number and what is summed over them
  pub energy_from_columns : (idle span' busy load : ℕ) → idle ≡ p.idle → span' ≡ span p →
      busy ≡ sum_of_kept kept (energy_on p plan k) kept.count → load ≡ sum_of_kept kept (load_on p plan k) kept.count →
      busy + idle * cond (ltb 0 kept.count) (span' - load) 0 ≡ core_energy p plan k
  unfolding core_energy idle_ticks is_awake
  energy_from_columns idle span' busy load same_idle same_span same_busy same_load =
      rw (same_idle, same_span, same_busy ∙ energy_over_kept, same_load ∙ load_over_kept p plan k kept columns, ← count_of_kept) refl

  pub energy_in_columns : (j : ℕ) → j < kept.count → (load : ℕ) → load ≡ load_on p plan k (place_of kept j) → load * get_or kept.powers j 0 ≡ energy_on p plan k (place_of kept j)
  energy_in_columns j l load e = rw (e, (columns.held j l).same_power) refl
