-- Each kept task is on exactly one core, so that the sum over cores of what it draws there is what it draws. Awake cores draw
-- idle power beside.
use Prim.Native.Nat.{ℕ, zero, suc, pred, ◌+◌, ◌*◌, ◌/◌, ◌≤◌, ◌<◌}
use Rattle.std.specs.Prelude.{Bool, not, ◌&&◌, List, ◌≡◌, eqb}
use Rattle.std.proofs.Math.Bool.{true, false, cond}
use Rattle.std.proofs.Math.Path.{refl, ap₂}
use Rattle.std.proofs.Common.{sym, ◌∙◌, div-lt_iff_lt-mul, zero-lt-suc, eq-eqb, ne_eqb}
use native.Mathlib.Omega.{arith}
use Rattle.std.proofs.Math.Dec.{eqb-suc-zero}
use Rattle.laws.specs.SumLaws.{sum_add, sum_cong, sum_scaled, sum_zero}
use Rattle.laws.specs.SumOrderLaws.{sum_exchange, sum_of_one_term}
use Rattle.laws.specs.Sums.{sum}
use Rattle.instance.specs.Node.{Problem, level_count, task_count, level_at}
use Rattle.plan_rules.specs.AllowedPlans.{AllowedPlan}
use Rattle.plan_rules.specs.Quantities.{choice_at, is_refused, level_of, keeps, jobs, job_ticks, ticks_on, load_on}
use Rattle.prices.specs.Prices.{busy_energy, idle_ticks, core_energy, energy}

-- the core of a choice in range is one of the cores
pub core_of_choice : (cores levels : ℕ) {d : ℕ} → d < cores * levels → d / levels < cores
core_of_choice cores zero h = absurd (omega arith)
core_of_choice cores (suc levels) h = (div-lt_iff_lt-mul (zero-lt-suc levels)).1 h

-- over the cores, what stands only on the core of choice c is there once, and nowhere where c refuses
on_one_core : (cores levels c x : ℕ) → c ≤ cores * levels →
    sum (λ k. cond (not (eqb c 0) && eqb (pred c / levels) k) x 0) cores ≡ cond (eqb c 0) 0 x
on_one_core cores levels zero x h = sum_zero _ cores (λ k l. refl)
on_one_core cores levels (suc d) x h =
    simp
    eqb-suc-zero
    (sum_of_one_term
    (λ k. cond (eqb (d / levels) k) x 0)
    cores
    (d / levels)
    (core_of_choice cores levels h)
    (λ j l other. rw (ne_eqb (d / levels) j (λ e. other (sym e))))
    ∙ rw (eq-eqb (d / levels) (d / levels) refl))

module _ (p : Problem) (plan : List ℕ) where
  -- what task i would draw as the plan keeps it
  drawn : ℕ → ℕ
  drawn i = jobs p i * job_ticks p plan i * (level_at p (level_of p plan i)).power

  drawn_on_core : (k i : ℕ) → load_on p plan k i * (level_at p (level_of p plan i)).power ≡ cond (keeps p plan k i) (drawn i) 0
  unfolding load_on ticks_on drawn
  drawn_on_core k i = go (keeps p plan k i)
    where
      go : (b : Bool) → jobs p i * cond b (job_ticks p plan i) 0 * (level_at p (level_of p plan i)).power ≡ cond b (drawn i) 0
      go true = refl
      go false = omega arith

  drawn_on_all_cores : (i : ℕ) → choice_at plan i ≤ p.cores * level_count p →
      sum (λ k. load_on p plan k i * (level_at p (level_of p plan i)).power) p.cores ≡ cond (is_refused plan i) 0 (drawn i)
  unfolding keeps
  drawn_on_all_cores i h =
      sum_cong _ _ _ (λ k l. drawn_on_core k i) ∙ on_one_core p.cores (level_count p) (choice_at plan i) (drawn i) h

  -- "Energy of a kept task: jobs × ticks × P."
  busy_energy_of_kept_tasks : AllowedPlan p plan →
      sum (busy_energy p plan) p.cores
      ≡ sum (λ i. cond (is_refused plan i) 0 (jobs p i * job_ticks p plan i * (level_at p (level_of p plan i)).power)) (task_count p)
  unfolding busy_energy drawn
  busy_energy_of_kept_tasks allowed =
      sum_exchange _ _ _ ∙ sum_cong _ _ _ (λ i h. drawn_on_all_cores i (allowed.choices_in_range i h))

  -- (a) "A core with a kept task pays idle power for each idle tick of the span."
  pub energy_of_kept_tasks_and_idle_ticks : AllowedPlan p plan →
      energy p plan
      ≡ sum (λ i. cond (is_refused plan i) 0 (jobs p i * job_ticks p plan i * (level_at p (level_of p plan i)).power)) (task_count p)
      + p.idle * sum (idle_ticks p plan) p.cores
  unfolding energy core_energy
  energy_of_kept_tasks_and_idle_ticks allowed =
      sum_add (busy_energy p plan) (λ k. p.idle * idle_ticks p plan k) p.cores
      ∙ ap₂ ◌+◌ (busy_energy_of_kept_tasks allowed) (sum_scaled p.idle (idle_ticks p plan) p.cores)
