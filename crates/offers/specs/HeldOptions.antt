-- The options of a problem, from the fields of the struct that holds it.
use Prim.Native.Nat.{ℕ, ◌+◌, ◌-◌, ◌*◌, ◌/◌, ◌≤◌, ◌<◌}
use Rattle.std.specs.Prelude.{◌≡◌, get_or}
use Rattle.std.proofs.Math.Path.{refl, ap}
use Rattle.std.proofs.Common.{ap₂, ◌∙◌, le_trans, le_of_eq, mul_assoc, mul-le-mul, div-le_self}
use Rattle.std.proofs.Math.Nat.{mul-add}
use Rattle.std.proofs.Math.Dec.{eqb}
use Rattle.instance.specs.Held.{problem_in, Sound, held_task, held_level, held_span}
use Rattle.ranges.specs.Limits.{most_cycles, most_idle_power, most_power, most_span, most_weight, may_not_be_refused}
use Rattle.instance.specs.Node.{level_count, task_count, task_at, no_level, no_task}
use Rattle.instance.specs.declared.Instance.{Instance}
use Rattle.instance.specs.declared.Level.{Level}
use Rattle.instance.specs.declared.Task.{Task}
use Rattle.plan_rules.specs.HeldQuantities.{start_ticks_at_most}
use Rattle.plan_rules.specs.Quantities.{ticks}
use Rattle.plan_rules.specs.QuantityBounds.{most_ticks, ticks_at_most}
use Rattle.core_tables.specs.AwakeCores.{alone_cost}
use Rattle.offers.specs.OptionsOf.{jobs_of, load_at, item_of, offer_of, idle_cost, offered_cost}

module _ (inst : Instance) (s : Sound inst) where
  pub held_span_at_most : inst.span ≤ most_span
  held_span_at_most = le_trans (le_of_eq (held_span inst s)) s.valid.span_at_most

  pub energy_weight_at_most : inst.weights.energy ≤ most_weight
  unfolding problem_in
  energy_weight_at_most = s.valid.energy_weight.at_most

  pub idle_power_at_most : inst.idle ≤ most_idle_power
  unfolding problem_in
  idle_power_at_most = s.valid.idle

  pub penalty_weight_at_most : inst.weights.penalty ≤ most_weight
  unfolding problem_in
  penalty_weight_at_most = s.valid.penalty_weight.at_most

  module _ (t : Task) (n : ℕ) (jobs_held : n ≡ inst.span / t.period) where
    held_jobs_of : n ≡ jobs_of (problem_in inst) t
    unfolding jobs_of
    held_jobs_of = jobs_held ∙ ap (λ (x : ℕ). x / t.period) (held_span inst s)

    pub jobs_at_most_span : n ≤ most_span
    jobs_at_most_span = le_trans (le_of_eq jobs_held) (le_trans (div-le_self inst.span t.period) held_span_at_most)

    module _ (i l x : ℕ) (same : t ≡ task_at (problem_in inst) i) (k : l < level_count (problem_in inst))
        (ticks_held : x ≡ ticks inst.start t.cycles (get_or inst.levels l no_level).speed) where
      pub held_load : n * x ≡ (offer_of (problem_in inst) (task_at (problem_in inst) i)).load l
      unfolding offer_of load_at problem_in
      held_load =
          let speed = ap (λ (level : Level). level.speed) (held_level inst s l k) in
          rw (← same) (ap₂ ◌*◌ held_jobs_of (ticks_held ∙ ap (λ (v : ℕ). ticks inst.start t.cycles v) speed))

      pub held_load_at_most : i < task_count (problem_in inst) → n * x ≤ most_span * most_ticks
      held_load_at_most h =
          let cycles : t.cycles ≤ most_cycles = rw same (s.valid.task i h).cycles.at_most in
          mul-le-mul jobs_at_most_span (le_trans (le_of_eq ticks_held) (ticks_at_most _ _ _ (start_ticks_at_most inst s) cycles))

    pub held_refusal : (i : ℕ) → t ≡ task_at (problem_in inst) i →
        inst.weights.penalty * (n * t.penalty) ≡ (item_of (problem_in inst) (task_at (problem_in inst) i)).refusal
    unfolding item_of problem_in
    held_refusal i same = rw (← same) (ap (λ (x : ℕ). inst.weights.penalty * (x * t.penalty)) held_jobs_of)

  module _ (l : ℕ) (h : l < level_count (problem_in inst)) where
    pub level_power_at_most : (get_or inst.levels l no_level).power ≤ most_power
    level_power_at_most = rw (held_level inst s l h) (s.valid.level l h).power.at_most

    pub held_cost : (i x : ℕ) → x ≡ (offer_of (problem_in inst) (task_at (problem_in inst) i)).load l →
        inst.weights.energy * (x * (get_or inst.levels l no_level).power + inst.idle * (inst.span - x))
        ≡ offered_cost (problem_in inst) (task_at (problem_in inst) i) l
    unfolding offer_of problem_in idle_cost alone_cost
    held_cost i x same =
        let power = ap (λ (level : Level). level.power) (held_level inst s l h) in
        rw (same, power, held_span inst s, mul-add, mul_assoc) refl

  pub held_must : (i : ℕ) → i < task_count (problem_in inst) →
      eqb (get_or inst.tasks i no_task).penalty may_not_be_refused ≡ (item_of (problem_in inst) (task_at (problem_in inst) i)).must
  unfolding item_of
  held_must i h = ap (λ (task : Task). eqb task.penalty may_not_be_refused) (held_task inst s i h)
