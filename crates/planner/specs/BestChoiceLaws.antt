-- What is found in what is offered for a problem is the problem's best plan: on light sites, and from the table of one core.
use Rattle.std.specs.Prelude.{ℕ, ◌<◌, Bool, List, ◌≡◌, Option, Some, None}
use Rattle.std.proofs.Math.Path.{refl}
use Rattle.std.proofs.Common.{sym, ap, ◌∙◌, mul-zero, arith}
use Rattle.laws.specs.Lists.{onto}
use Rattle.instance.specs.Node.{Problem, task_count, level_count, span}
use Rattle.instance.specs.Valid.{Valid, DueAtPeriodEnd}
use Rattle.assignment.specs.AlikeLaws.{Alike, cost_alike, best_alike}
use Rattle.assignment.specs.Assignment.{Options, Best, total_cost}
use Rattle.assignment.specs.Keys.{digits}
use Rattle.knapsack.specs.Offered.{offers_of}
use Rattle.knapsack.specs.Offers.{load_options}
use Rattle.core_tables.specs.AwakeLaws.{free_alike}
use Rattle.light.specs.Light.{OfferFits}
use Rattle.search.specs.Found.{Searched, BestFound}
use Rattle.search.specs.FoundLaws.{search_is_best}
use Rattle.search.specs.Limits.{SearchReady}
use Rattle.search.specs.declared.Shape.{Shape}
use Rattle.values.specs.BestKeys.{BestKey}
use Rattle.values.specs.Items.{items_of}
use Rattle.values.specs.declared.value.Worth.{Worth}
use Rattle.planner.specs.BestChoices.{found_of, chosen_onto}
use Rattle.planner.specs.BestPlanLaws.{choice_count, best_is_best_plan, none_is_none}
use Rattle.planner.specs.CostLaws.{cost_is_total}
use Rattle.planner.specs.FilledCores.{CoreFilled}
use Rattle.planner.specs.OfferedBounds.{offered_affordable, offered_refusal_at_most}
use Rattle.planner.specs.OfferedLaws.{awake_alike, offered_alone, offers_beside_items, offered_items}
use Rattle.offers.specs.OfferedOptions.{OptionsOffered}
use Rattle.offers.specs.OptionsOf.{idle_cost, options_of}
use Rattle.planner.specs.Planning.{best_plan}

key_alike : {o o' : Options} {n : ℕ} {worth : Worth} → Alike o o' → BestKey o n worth → BestKey o' n worth
key_alike alike best =
    record {
      is_best = best_alike alike best.is_best;
      costs = sym (cost_alike alike best.is_best.allowed) ∙ best.costs;
      key_below = best.key_below;
    }

abbrev pub shape_of : Problem → Shape
shape_of p = record { items = task_count p; cores = p.cores; levels = level_count p }

-- the answer and the plan afterwards are those of the best plan
pub record Chosen (p : Problem) (before after : List ℕ) (r : Option ℕ) : Type 0 where
  pub found : r ≡ found_of p (best_plan p)
  pub written : after ≡ chosen_onto (best_plan p) before

module _ (p : Problem) where
  best_chosen : {plan before after : List ℕ} {cost : ℕ} → Best (options_of p) plan → total_cost (options_of p) plan ≡ cost →
      after ≡ onto plan before → Chosen p before after (Some cost)
  best_chosen {plan} best costs written =
      record {
        found = rw (best_is_best_plan p best) (ap Some (sym costs ∙ sym (cost_is_total p plan (choice_count p best.allowed))));
        written = rw (best_is_best_plan p best) written;
      }

  pub key_is_chosen : {worth : Worth} {before after : List ℕ} → BestKey (options_of p) (task_count p) worth →
      after ≡ onto (digits (task_count p) worth.key) before → Chosen p before after (Some worth.cost)
  key_is_chosen best written = best_chosen best.is_best best.costs written

  pub found_is_chosen : (before after : List ℕ) (r : Option ℕ) → BestFound (options_of p) before after r → Chosen p before after r
  found_is_chosen before after (Some cost) best = best_chosen best.is_best best.costs best.written
  found_is_chosen before after None (none_allowed, unchanged) =
      record { found = rw (none_is_none p none_allowed); written = rw (none_is_none p none_allowed) unchanged }

module _ {p : Problem} {load cost refusal : List ℕ} {must : List Bool} (v : Valid p)
    (o : OptionsOffered p (task_count p) load cost refusal must) where
  pub offer_fits : OfferFits (task_count p) (level_count p) (span p) load cost refusal must
  offer_fits =
      record {
        items_limited = v.task_count_bound;
        affordable = offered_affordable v o.levels;
        refusals_for_all = omega (arith, o.refusal_length, v.task_count_bound);
        musts_for_all = omega (arith, o.must_length, v.task_count_bound);
        refusals_limited = offered_refusal_at_most v o;
      }

  -- on light sites without idle power and early deadlines
  pub light_is_best : p.idle ≡ 0 → DueAtPeriodEnd p.tasks → {worth : Worth} →
      ((cores : ℕ) → 0 < cores → BestKey (load_options cores (level_count p) (span p) (offers_of load cost (task_count p)) (items_of refusal must (task_count p))) (task_count p) worth) →
      BestKey (options_of p) (task_count p) worth
  unfolding idle_cost
  light_is_best none due light =
      let free : idle_cost p ≡ 0 = rw none (mul-zero p.weights.energy) in
      let best = rw (offered_items o) at (light p.cores v.cores.at_least) in
      let alone = rw free at (offered_alone v o.levels) in
      key_alike (rw free at (awake_alike p v due)) (key_alike (free_alike p.cores (options_of p).items alone (offers_beside_items p)) best)

  module _ {costs₀ keys₀ costs keys : List ℕ} (filled : CoreFilled p costs₀ keys₀ costs keys) where
    pub search_ready : SearchReady (shape_of p) refusal must costs keys
    search_ready =
        record {
          shape_limited =
              record {
                items = v.task_count_bound;
                some_core = v.cores.at_least;
                cores = v.cores.at_most;
                levels = v.level_count_bound.at_most;
              };
          refusals_for_all = omega (arith, o.refusal_length, v.task_count_bound);
          musts_for_all = omega (arith, o.must_length, v.task_count_bound);
          refusals_limited = offered_refusal_at_most v o;
          core_table = filled.limited;
        }

    pub searched_is_chosen : {before after : List ℕ} {r : Option ℕ} → Searched (shape_of p) refusal must costs keys before after r → Chosen p before after r
    unfolding options_of
    searched_is_chosen {before} {after} {r} searched =
        found_is_chosen p before after r (search_is_best search_ready searched (options_of p) refl refl (sym (offered_items o)) filled.least)
