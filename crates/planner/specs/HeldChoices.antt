-- Choosing the best plan, from the fields of the struct that holds the problem.
use Rattle.std.specs.Prelude.{ℕ, ◌*◌, ◌^◌, ◌≤◌, ◌<◌, Bool, List, ◌≡◌, length, Option, Some, None, IfSome}
use Rattle.laws.specs.Lists.{onto}
use Rattle.ranges.specs.Limits.{most_levels}
use Rattle.instance.specs.Held.{Sound, problem_in, held_taskcount, held_levelcount, held_span}
use Rattle.instance.specs.Valid.{DueAtPeriodEnd}
use Rattle.instance.specs.Node.{level_count, span, task_count}
use Rattle.instance.specs.declared.Instance.{Instance}
use Rattle.plan_rules.specs.HeldPlans.{held_cores}
use Rattle.assignment.specs.Keys.{digits}
use Rattle.knapsack.specs.Offered.{offers_of}
use Rattle.knapsack.specs.Offers.{load_options}
use Rattle.knapsack_tables.specs.TabledKnapsacks.{KnapsacksFit, KnapsacksFilled}
use Rattle.light.specs.Light.{OfferFits}
use Rattle.core_tables.specs.ChargedTables.{ChargeReady, ChargedBelow}
use Rattle.partition.specs.Tables.{most_sets}
use Rattle.search.specs.Found.{Searched}
use Rattle.search.specs.Limits.{SearchReady}
use Rattle.search.specs.declared.Shape.{Shape}
use Rattle.values.specs.BestKeys.{BestKey}
use Rattle.values.specs.Items.{items_of}
use Rattle.values.specs.declared.value.Worth.{Worth}
use Rattle.planner.specs.BestChoiceLaws.{Chosen, shape_of, key_is_chosen, offer_fits, light_is_best, search_ready, searched_is_chosen}
use Rattle.planner.specs.FilledCores.{CoreFilled, knapsacks_fit, ready_to_charge, core_filled}
use Rattle.offers.specs.OfferedOptions.{LevelsOffered, OptionsOffered}
use Rattle.offers.specs.OptionsOf.{idle_cost, options_of}

abbrev shape_in : Instance → Shape
shape_in inst = record { items = inst.taskcount; cores = inst.cores; levels = inst.levelcount }

module _ (inst : Instance) (s : Sound inst) where
  held_shape : shape_in inst ≡ shape_of (problem_in inst)
  held_shape = λ i.
      record { items = held_taskcount inst s i; cores = held_cores inst s i; levels = held_levelcount inst s i }

  pub held_key_chosen : {worth : Worth} {before after : List ℕ} → BestKey (options_of (problem_in inst)) (task_count (problem_in inst)) worth →
      after ≡ onto (digits inst.taskcount worth.key) before → Chosen (problem_in inst) before after (Some worth.cost)
  held_key_chosen best written = key_is_chosen (problem_in inst) best (rw (held_taskcount inst s) at written)

  module _ {load cost refusal : List ℕ} {must : List Bool}
      (o : OptionsOffered (problem_in inst) (task_count (problem_in inst)) load cost refusal must) where
    pub held_offer_fits : OfferFits inst.taskcount inst.levelcount inst.span load cost refusal must
    unfolding problem_in
    held_offer_fits = rw (held_taskcount inst s, held_levelcount inst s, held_span inst s) (offer_fits s.valid o)

    pub held_light_best : inst.idle ≡ 0 → DueAtPeriodEnd (problem_in inst).tasks → {worth : Worth} →
        ((cores : ℕ) → 0 < cores → BestKey (load_options cores inst.levelcount inst.span (offers_of load cost inst.taskcount) (items_of refusal must inst.taskcount)) inst.taskcount worth) →
        BestKey (options_of (problem_in inst)) (task_count (problem_in inst)) worth
    unfolding problem_in
    held_light_best free due light =
        light_is_best s.valid o free due (rw (held_taskcount inst s, held_levelcount inst s, held_span inst s) at light)

    pub held_light_told : inst.idle ≡ 0 → DueAtPeriodEnd (problem_in inst).tasks → (told : Option Worth) →
        IfSome told (λ worth. (cores : ℕ) → 0 < cores → BestKey (load_options cores inst.levelcount inst.span (offers_of load cost inst.taskcount) (items_of refusal must inst.taskcount)) inst.taskcount worth) →
        IfSome told (BestKey (options_of (problem_in inst)) (task_count (problem_in inst)))
    held_light_told free due None light = tt
    held_light_told free due (Some worth) light = held_light_best free due light

    module _ {costs₀ keys₀ costs keys : List ℕ} (filled : CoreFilled (problem_in inst) costs₀ keys₀ costs keys) where
      pub held_search_ready : SearchReady (shape_in inst) refusal must costs keys
      held_search_ready = rw held_shape (search_ready s.valid o filled)

      pub held_searched_chosen : {before after : List ℕ} {r : Option ℕ} → Searched (shape_in inst) refusal must costs keys before after r →
          Chosen (problem_in inst) before after r
      held_searched_chosen searched = searched_is_chosen s.valid o filled (rw held_shape at searched)

  -- the table of one core
  module _ {load cost : List ℕ} (o : LevelsOffered (problem_in inst) (task_count (problem_in inst) * most_levels) load cost) where
    pub held_knapsacks_fit : {costs keys : List ℕ} → most_sets ≤ length costs → most_sets ≤ length keys →
        KnapsacksFit inst.taskcount inst.levelcount inst.span load cost costs keys
    unfolding problem_in
    held_knapsacks_fit room keys_room =
        rw (held_taskcount inst s, held_levelcount inst s, held_span inst s) (knapsacks_fit s.valid o room keys_room)

    module _ {costs₀ keys₀ costs keys : List ℕ}
        (filled : KnapsacksFilled inst.taskcount inst.levelcount inst.span load cost costs₀ keys₀ costs keys) where
      tables : KnapsacksFilled (task_count (problem_in inst)) (level_count (problem_in inst)) (span (problem_in inst)) load cost costs₀ keys₀ costs keys
      unfolding problem_in
      tables = rw (held_taskcount inst s, held_levelcount inst s, held_span inst s) at filled

      module _ {whole : ℕ} (is : whole ≡ idle_cost (problem_in inst) * span (problem_in inst)) where
        pub held_charge_ready : ChargeReady inst.taskcount whole costs
        held_charge_ready = rw (held_taskcount inst s, is) (ready_to_charge s.valid o tables)

        pub held_core_filled : DueAtPeriodEnd (problem_in inst).tasks → {after : List ℕ} →
            ChargedBelow inst.taskcount whole (2 ^ inst.taskcount) costs after →
            length after ≡ length costs → CoreFilled (problem_in inst) costs₀ keys₀ after keys
        held_core_filled due charged same_length =
            core_filled s.valid o tables due (rw (held_taskcount inst s, is) at charged) same_length
