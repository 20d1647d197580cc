-- Two problems that differ in one task's penalty: the sum of the rises is that task's.
use Prim.Native.Nat.{ℕ, ◌-◌, ◌*◌, ◌≤◌, ◌<◌}
use Rattle.std.specs.Prelude.{false, ◌≡◌, refl}
use Rattle.std.proofs.Math.Path.{sym, ap, ap₂}
use Rattle.std.proofs.Common.{◌∙◌, arith, get_or-set_same, ne_eqb}
use Rattle.std.proofs.Math.Decide.{ℕ_discrete}
use Rattle.std.proofs.Math.Nat.{le_refl, sub_self}
use Rattle.std.proofs.Math.Dec.{eqb}
use Rattle.std.proofs.Math.ListN.{length-set}
use Rattle.std.proofs.Math.Seq.{get_or-set_other, map-set_same}
use Rattle.laws.specs.SumOrderLaws.{sum_of_one_term}
use Rattle.ranges.specs.Limits.{most_penalty, may_not_be_refused}
use Rattle.instance.specs.Node.{Problem, task_count, task_at, no_task}
use Rattle.plan_rules.specs.Plans.{is_must}
use Rattle.plan_rules.specs.Quantities.{jobs}
use Rattle.planner.specs.Planning.{best_plan}
use Rattle.penalties.specs.LeastCostTheorem.{least_cost_rises}
use Rattle.penalties.specs.Penalties.{with_penalty, repriced, with_tasks, without_penalties, PenaltiesRaised, rise, all_rises, PlansRise}
use Rattle.penalties.specs.UnreadLaws.{same_where_alike, jobs_unread}

module _ (p : Problem) (i : ℕ) where
  same_count : (x : ℕ) → task_count (repriced p i x) ≡ task_count p
  unfolding repriced
  same_count x = length-set p.tasks i (with_penalty x (task_at p i))

  other_task : (x j : ℕ) → (j ≡ i → ⊥) → task_at (repriced p i x) j ≡ task_at p j
  unfolding repriced
  other_task x j differs = get_or-set_other p.tasks i j (with_penalty x (task_at p i)) no_task differs

  alike_but_for_penalties : (x : ℕ) → without_penalties (repriced p i x) ≡ without_penalties p
  unfolding repriced without_penalties
  alike_but_for_penalties x =
      ap (with_tasks p) (map-set_same (with_penalty 0) p.tasks i (with_penalty x (task_at p i)) no_task refl)

  module _ (is_task : i < task_count p) where
    its_penalty : (x : ℕ) → (task_at (repriced p i x) i).penalty ≡ x
    unfolding repriced
    its_penalty x = ap (λ t. t.penalty) (get_or-set_same p.tasks i (with_penalty x (task_at p i)) no_task is_task)

    module _ (x y : ℕ) (no_lower : x ≤ y) (in_range : y ≤ most_penalty) where
      -- what holds of x and y, and of any penalty and itself, holds of both penalties of each task
      of_both_penalties : (P : ℕ → ℕ → Type 0) → P x y → ((z : ℕ) → P z z) → (j : ℕ) →
          P (task_at (repriced p i x) j).penalty (task_at (repriced p i y) j).penalty
      of_both_penalties P here elsewhere j = go (ℕ_discrete j i)
        where
          go : Dec (j ≡ i) → P (task_at (repriced p i x) j).penalty (task_at (repriced p i y) j).penalty
          go (yes same) = rw (same, its_penalty x, its_penalty y) here
          go (no differs) = rw (other_task x j differs, other_task y j differs) (elsewhere (task_at p j).penalty)

      may_be_refused : (z : ℕ) → z ≤ most_penalty → eqb z may_not_be_refused ≡ false
      may_be_refused z h = ne_eqb z may_not_be_refused (λ e. omega arith)

      raised : PenaltiesRaised (repriced p i x) (repriced p i y)
      unfolding is_must
      raised =
          record {
            alike = alike_but_for_penalties x ∙ sym (alike_but_for_penalties y);
            none_lower = λ j h. of_both_penalties (λ a b. a ≤ b) no_lower le_refl j;
            same_must = λ j h.
                of_both_penalties
                (λ a b. eqb a may_not_be_refused ≡ eqb b may_not_be_refused)
                (may_be_refused x (omega arith) ∙ sym (may_be_refused y in_range))
                (λ z. refl)
                j;
          }

      no_rise : (j : ℕ) → (j ≡ i → ⊥) → rise (repriced p i x) (repriced p i y) j ≡ 0
      unfolding rise
      no_rise j differs = rw (other_task x j differs, other_task y j differs, sub_self (task_at p j).penalty) (omega arith)

      its_rise : rise (repriced p i x) (repriced p i y) i ≡ p.weights.penalty * jobs p i * (y - x)
      unfolding rise repriced
      its_rise =
          ap₂
          (λ (n more : ℕ). p.weights.penalty * n * more)
          (same_where_alike (jobs_unread i) (alike_but_for_penalties x))
          (ap₂ ◌-◌ (its_penalty y) (its_penalty x))

      sum_of_rises : all_rises (repriced p i x) (repriced p i y) ≡ p.weights.penalty * jobs p i * (y - x)
      unfolding all_rises
      sum_of_rises =
          let low = repriced p i x in
          sum_of_one_term (rise low (repriced p i y)) (task_count low) i (rw same_count is_task) (λ j h. no_rise j) ∙ its_rise

      pub one_penalty_raises_least_cost :
          let low = repriced p i x in
          let high = repriced p i y in
          PlansRise low high (p.weights.penalty * jobs p i * (y - x)) (best_plan low) (best_plan high)
      one_penalty_raises_least_cost = rw sum_of_rises at (least_cost_rises raised)
