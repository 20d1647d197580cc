use native.Mathlib.Omega.{arith}
use Rattle.prices.specs.HeldPrices.{weighted_energy_at_most, weighted_penalty_at_most, held_price}
use Rattle.plan_rules.specs.PlanLaws.{passing_plan}
use Rattle.prices.proofs.amounts.price_of.Goals as goal

pub all_energy-energy-requires : goal.all_energy-energy-requires
all_energy-energy-requires c = let start = c in
    record { sound = start.requires.sound; plan_len = (passing_plan _ _ start.requires.plan_value).allowed.one_choice_per_task }

pub all_penalty-penalty-requires : goal.all_penalty-penalty-requires
all_penalty-penalty-requires c = let start = c in
    record { sound = start.requires.sound; plan_len = (passing_plan _ _ start.requires.plan_value).allowed.one_choice_per_task }

pub overflow_mul-cost : goal.overflow_mul-cost
overflow_mul-cost c = let start = c in
    omega (
      arith,
      weighted_energy_at_most _ start.requires.sound start.args.plan.now _ (passing_plan _ _ start.requires.plan_value) c.all_energy-energy.ensures,
    )

pub overflow_mul-cost-2 : goal.overflow_mul-cost-2
overflow_mul-cost-2 c = let start = c in
    omega (arith, weighted_penalty_at_most _ start.requires.sound start.args.plan.now _ c.all_penalty-penalty.ensures)

pub overflow_add-cost : goal.overflow_add-cost
overflow_add-cost c = let start = c in
    omega (
      arith,
      weighted_energy_at_most _ start.requires.sound start.args.plan.now _ (passing_plan _ _ start.requires.plan_value) c.all_energy-energy.ensures,
      weighted_penalty_at_most _ start.requires.sound start.args.plan.now _ c.all_penalty-penalty.ensures,
    )

pub returns : goal.returns
returns c = held_price _ c.requires.sound _ _ _ c.all_energy-energy.ensures c.all_penalty-penalty.ensures
