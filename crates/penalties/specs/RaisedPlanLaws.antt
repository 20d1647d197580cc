-- Where penalties are raised, the same plans pass, and a plan's cost grows by exactly what its refused tasks' penalties grow.
use Rattle.std.specs.Prelude.{ℕ, zero, suc, ◌+◌, ◌-◌, ◌*◌, ◌≤◌, ◌<◌, Bool, ◌&&◌, ◌||◌, List, ◌≡◌, refl}
use Rattle.std.proofs.Math.Bool.{true, false, cond}
use Rattle.std.proofs.Math.Path.{sym, ap, ap₂}
use Rattle.std.proofs.Common.{◌∙◌}
use Rattle.std.proofs.Math.Nat.{le_refl}
use native.Mathlib.Omega.{arith}
use Rattle.std.proofs.Math.Dec.{ltb}
use Rattle.laws.specs.Search.{first}
use Rattle.laws.specs.SumLaws.{sum_cong, sum_mono, sum_add, sum_scaled}
use Rattle.laws.specs.Sums.{sum}
use Rattle.instance.specs.Node.{Problem, task_count, task_at}
use Rattle.instance.specs.declared.Weights.{Weights}
use Rattle.refusals.specs.Refusals.{◌and_then◌}
use Rattle.plan_rules.specs.Plans.{most_choice, bad_choice, choices_pass, plan_passes}
use Rattle.plan_rules.specs.Quantities.{choice_at, is_refused, jobs}
use Rattle.prices.specs.Prices.{energy, penalty, cost}
use Rattle.penalties.specs.Penalties.{PenaltiesRaised, rise, all_rises, RisesByAtMost}
use Rattle.penalties.specs.UnreadLaws.{same_where_alike, weights_unread, most_choice_unread, task_count_unread, jobs_unread, cores_fit_unread, energy_unread}

first_same : (f g : ℕ → Bool) (n : ℕ) → ((k : ℕ) → k < n → f k ≡ g k) → first f n ≡ first g n
unfolding first
first_same f g zero same = refl
first_same f g (suc n) same = rw (first_same f g n (λ k h. same k (omega arith)), same n (le_refl (suc n)))

-- the weighted penalty of one task's jobs, where it is refused: what it was, and what it grew by
refusal_grows : (refused : Bool) (weight jobs low high : ℕ) → low ≤ high →
    weight * cond refused (jobs * high) 0 ≡ weight * cond refused (jobs * low) 0 + cond refused (weight * jobs * (high - low)) 0
refusal_grows true weight jobs low high h = ap (λ (x : ℕ). weight * (jobs * x)) whole ∙ spread (high - low)
  where
    whole : high ≡ low + (high - low)
    whole = omega arith

    spread : (more : ℕ) → weight * (jobs * (low + more)) ≡ weight * (jobs * low) + weight * jobs * more
    spread more = omega arith
refusal_grows false weight jobs low high h = omega arith

-- "Penalty of a refused one: jobs × its penalty."
abbrev refusal : Problem → List ℕ → ℕ → ℕ
refusal p plan i = cond (is_refused plan i) (jobs p i * (task_at p i).penalty) 0

-- what raised penalties add to a plan's cost: of a task that it refuses the rise, of one that it keeps nothing
added : Problem → Problem → List ℕ → ℕ → ℕ
added low high plan i = cond (is_refused plan i) (rise low high i) 0

module _ {low high : Problem} (raised : PenaltiesRaised low high) where
  pub same_task_count : task_count low ≡ task_count high
  same_task_count = same_where_alike task_count_unread raised.alike

  pub same_most_choice : most_choice low ≡ most_choice high
  same_most_choice = same_where_alike most_choice_unread raised.alike

  module _ (plan : List ℕ) where
    same_bad_choices : (i : ℕ) → i < task_count low → bad_choice low plan i ≡ bad_choice high plan i
    unfolding bad_choice
    same_bad_choices i is_task =
        ap₂
        (λ (most : ℕ) (must : Bool). ltb most (choice_at plan i) || (is_refused plan i && must))
        same_most_choice
        (raised.same_must i is_task)

    same_choices_pass : choices_pass low plan ≡ choices_pass high plan
    unfolding choices_pass
    same_choices_pass = rw (first_same (bad_choice low plan) (bad_choice high plan) (task_count low) same_bad_choices, same_task_count)

    -- a penalty is read only to see whether its task may be refused
    pub same_plans_pass : plan_passes low plan ≡ plan_passes high plan
    unfolding plan_passes
    same_plans_pass = ap₂ ◌and_then◌ same_choices_pass (same_where_alike (cores_fit_unread plan) raised.alike)

    task_grows : (i : ℕ) → i < task_count low →
        let weight = low.weights.penalty in weight * refusal high plan i ≡ weight * refusal low plan i + added low high plan i
    unfolding added rise
    task_grows i is_task =
        rw (← same_where_alike (jobs_unread i) raised.alike)
        (refusal_grows (is_refused plan i) low.weights.penalty (jobs low i) _ _ (raised.none_lower i is_task))

    penalty_grows :
        let weight = low.weights.penalty in
        weight * penalty high plan ≡ weight * penalty low plan + sum (added low high plan) (task_count low)
    unfolding penalty
    penalty_grows =
        let weight = low.weights.penalty in
        let n = task_count low in
        ap (λ (tasks : ℕ). weight * sum (refusal high plan) tasks) (sym same_task_count)
        ∙ sym (sum_scaled weight (refusal high plan) n)
        ∙ sum_cong _ _ n task_grows
        ∙ sum_add (λ i. weight * refusal low plan i) (added low high plan) n
        ∙ ap (λ (before : ℕ). before + sum (added low high plan) n) (sum_scaled weight (refusal low plan) n)

    same_but_for_penalty : cost high plan ≡ low.weights.energy * energy low plan + low.weights.penalty * penalty high plan
    unfolding cost
    same_but_for_penalty =
        sym
        (ap₂
        (λ (w : Weights) (its_energy : ℕ). w.energy * its_energy + w.penalty * penalty high plan)
        (same_where_alike weights_unread raised.alike)
        (same_where_alike (energy_unread plan) raised.alike))

    -- exactly, and not only at most
    cost_grows : cost high plan ≡ cost low plan + sum (added low high plan) (task_count low)
    unfolding cost
    cost_grows = omega (arith, same_but_for_penalty, penalty_grows)

    added_at_most : (i : ℕ) → added low high plan i ≤ rise low high i
    unfolding added
    added_at_most i = go (is_refused plan i)
      where
        go : (refused : Bool) → cond refused (rise low high i) 0 ≤ rise low high i
        go true = le_refl (rise low high i)
        go false = omega arith

    pub cost_rises : RisesByAtMost (all_rises low high) (cost low plan) (cost high plan)
    unfolding all_rises
    cost_rises =
        let most = sum_mono (added low high plan) (rise low high) (task_count low) (λ i h. added_at_most i) in
        record { no_smaller = omega (arith, cost_grows); larger_by_at_most = omega (arith, cost_grows, most) }
