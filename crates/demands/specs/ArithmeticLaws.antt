-- What demand 2 needs: ticks round up, a price is the papers' sums, and the check and planning answer for an instance that
-- was read what the definitions say of it.
use Rattle.std.specs.Prelude.{ℕ, suc, ◌+◌, ◌-◌, ◌*◌, ◌/◌, ◌≤◌, ◌<◌, cond, List, ◌↔◌, ◌≡◌, length, Ok}
use Rattle.std.proofs.Math.Option.{Option, some}
use Rattle.std.proofs.Math.Path.{refl, ap}
use Rattle.std.proofs.Common.{◌∙◌, div-lt_iff_lt-mul, arith}
use Rattle.laws.specs.Sums.{sum}
use Rattle.refusals.specs.Refusals.{accepted}
use Rattle.instance.specs.Node.{Problem, task_count, level_at, task_at}
use Rattle.refusals.specs.RoomLaws.{enough_room}
use Rattle.instance.specs.SiteFile.{problem_of}
use Rattle.plan_rules.specs.AllowedPlanLaws.{choices_pass-iff}
use Rattle.checks.specs.Checks.{slot_check, check}
use Rattle.checks.specs.Outcomes.{slot_check_outcome, slot_check_outcome_of, check_outcome, check_outcome_of}
use Rattle.plan_rules.specs.Plans.{choices_pass}
use Rattle.plan_rules.specs.Quantities.{is_refused, level_of, ticks, job_ticks, jobs}
use Rattle.prices.specs.Prices.{idle_ticks, penalty, cost, price_of}
use Rattle.tables.specs.Tables.{table_size}
use Rattle.planner.specs.EnergyLaws.{energy_of_kept_tasks_and_idle_ticks}
use Rattle.planner.specs.Outcomes.{plan_answered, plan_outcome}
use Rattle.planner.specs.PlannedLaws.{where_room}
use Rattle.planner.specs.Planning.{best_plan}

-- after the start ticks the least number of ticks in which the cycles are done
pub ticks_round_up : (start cycles speed n : ℕ) → 0 < speed → (ticks start cycles speed ≤ n + start) ↔ (cycles ≤ n * speed)
unfolding ticks
ticks_round_up start cycles speed n above =
    let below = div-lt_iff_lt-mul {k = speed} {x = cycles + (speed - 1)} {y = suc n} above in (
      λ h. let product : cycles + (speed - 1) < suc n * speed = below.0 (omega arith) in omega arith,
      λ h. let quotient : (cycles + (speed - 1)) / speed < suc n = below.1 (omega arith) in omega arith,
    )

module _ (p : Problem) (plan : List ℕ) where
  pub priced_energy : choices_pass p plan ≡ accepted →
      (price_of p plan).energy
      ≡ sum (λ i. cond (is_refused plan i) 0 (jobs p i * job_ticks p plan i * (level_at p (level_of p plan i)).power)) (task_count p)
      + p.idle * sum (idle_ticks p plan) p.cores
  unfolding price_of
  priced_energy passes = energy_of_kept_tasks_and_idle_ticks p plan ((choices_pass-iff p plan).0 passes)

  pub priced_penalty : (price_of p plan).penalty ≡ sum (λ i. cond (is_refused plan i) (jobs p i * (task_at p i).penalty) 0) (task_count p)
  unfolding price_of penalty
  priced_penalty = refl

  pub priced_cost : (price_of p plan).cost ≡ p.weights.energy * (price_of p plan).energy + p.weights.penalty * (price_of p plan).penalty
  unfolding price_of cost
  priced_cost = refl

module _ (words : List ℕ) (p : Problem) (read : problem_of words ≡ Ok p) where
  pub slots_checked_as_defined : (plan table : List ℕ) → slot_check_outcome words plan table ≡ slot_check p plan table
  unfolding slot_check_outcome
  slots_checked_as_defined plan table = ap (λ r. slot_check_outcome_of r plan table) read

  pub checked_as_defined : (plan table : List ℕ) → check_outcome words plan table ≡ check p plan table
  unfolding check_outcome
  checked_as_defined plan table = ap (λ r. check_outcome_of r plan table) read

  pub best_plan_is_written : (best plan table : List ℕ) → best_plan p ≡ some best → task_count p ≤ length plan →
      table_size p ≤ length table → plan_outcome words plan table ≡ plan_answered p (some best) plan table
  best_plan_is_written best plan table e plan_room table_room =
      where_room words plan table p read accepted (rw (enough_room (task_count p) plan plan_room, enough_room (table_size p) table table_room))
      ∙ ap (λ (found : Option (List ℕ)). plan_answered p found plan table) e
