-- Which ticks an awake core is idle in, and that a core that is off has none.
use Rattle.std.specs.Prelude.{ℕ, ◌-◌, ◌≤◌, ◌<◌, Bool, List}
use Rattle.std.proofs.Math.Bool.{true, false, cond}
use Rattle.std.proofs.Math.Path.{◌≡◌, refl}
use Rattle.std.proofs.Common.{arith}
use borrow.Author.Tests.{lt-ltb, ltb-true, ltb-false}
use Rattle.laws.specs.CountLaws.{count_is_sum, some_counted}
use Rattle.laws.specs.SumLaws.{sum_zero, term_le_sum}
use Rattle.laws.specs.Sums.{sum}
use Rattle.instance.specs.Node.{Problem, task_count, span}
use Rattle.plan_rules.specs.Quantities.{keeps, core_load}
use Rattle.prices.specs.Prices.{kept_count, is_awake, idle_ticks}

module _ (p : Problem) (plan : List ℕ) (k : ℕ) where
  pub idle_ticks_of_awake_core : (i : ℕ) → i < task_count p → keeps p plan k i ≡ true → idle_ticks p plan k ≡ span p - core_load p plan k
  unfolding idle_ticks is_awake kept_count
  idle_ticks_of_awake_core i h kept =
      let counted : ◌≡◌ {A = ℕ} (cond (keeps p plan k i) 1 0) 1 = rw kept refl in
      rw (lt-ltb 0 (kept_count p plan k) (omega (arith, term_le_sum (λ i. cond (keeps p plan k i) 1 0) (task_count p) i h))) refl

  pub no_idle_ticks_of_off_core : ((i : ℕ) → i < task_count p → keeps p plan k i ≡ false) → idle_ticks p plan k ≡ 0
  unfolding idle_ticks is_awake kept_count
  no_idle_ticks_of_off_core none =
      rw (sum_zero (λ i. cond (keeps p plan k i) 1 0) (task_count p) (λ i h. rw (none i h) refl)) refl

  -- "A core with a kept task"
  pub awake_core_keeps_task : is_awake p plan k ≡ true → (i : ℕ) × (i < task_count p) × (keeps p plan k i ≡ true)
  unfolding is_awake kept_count
  awake_core_keeps_task awake =
      some_counted (keeps p plan k) (task_count p) (rw (count_is_sum (keeps p plan k) (task_count p)) (ltb-true _ _ awake))

  -- "A core without one is off"
  pub off_core_keeps_none : is_awake p plan k ≡ false → (i : ℕ) → i < task_count p → keeps p plan k i ≡ false
  unfolding is_awake kept_count
  off_core_keeps_none off i h =
      let none : sum (λ i. cond (keeps p plan k i) 1 0) (task_count p) ≤ 0 = ltb-false _ _ off in
      go (keeps p plan k i) (term_le_sum (λ i. cond (keeps p plan k i) 1 0) (task_count p) i h) none
    where
      go : {n : ℕ} (kept : Bool) → cond kept 1 0 ≤ n → n ≤ 0 → kept ≡ false
      go true at_most none = absurd (omega arith)
      go false at_most none = refl
