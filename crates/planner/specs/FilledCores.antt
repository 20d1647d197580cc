-- The table of one core, as the search asks for it: from the knapsacks of what is offered, each less what it counts too often.
use Rattle.std.specs.Prelude.{ℕ, ◌*◌, ◌^◌, ◌≤◌, List, ◌≡◌, length}
use Rattle.std.proofs.Common.{◌∙◌, arith}
use Rattle.ranges.specs.Limits.{most_levels}
use Rattle.instance.specs.Node.{Problem, level_count, span, task_count}
use Rattle.instance.specs.Valid.{Valid, DueAtPeriodEnd}
use Rattle.assignment.specs.AlikeLaws.{core_table_alike}
use Rattle.assignment.specs.CoreTables.{CoreTable}
use Rattle.assignment.specs.Sets.{table_at}
use Rattle.knapsack.specs.Offered.{offers_of}
use Rattle.knapsack.specs.Offers.{load_options}
use Rattle.knapsack_tables.specs.TabledKnapsacks.{KnapsacksFit, KnapsacksFilled, SameFrom, filled_core_table}
use Rattle.core_tables.specs.ChargedLaws.{charge_ready, charged_core_table, charged_tabled, charged_limited, charged_keyed}
use Rattle.core_tables.specs.ChargedTables.{ChargeReady, ChargedBelow}
use Rattle.partition.specs.Tables.{OneCoreTable, one_core_table, most_sets, room_for_sets}
use Rattle.planner.specs.OfferedBounds.{offered_affordable}
use Rattle.planner.specs.OfferedLaws.{awake_alike, offered_alone, offers_beside_items}
use Rattle.offers.specs.OfferedOptions.{LevelsOffered}
use Rattle.planner.specs.OptionsLaws.{item_count}
use Rattle.offers.specs.OptionsOf.{idle_cost, options_of}

-- the least values of all sets on one core, within the limits of the search, and nothing else is written
pub record CoreFilled (p : Problem) (costs₀ keys₀ costs keys : List ℕ) : Type 0 where
  pub limited : OneCoreTable (task_count p) (level_count p) costs keys
  pub least : CoreTable (options_of p) (table_at (task_count p) costs keys)
  pub other_costs : SameFrom (2 ^ task_count p) costs₀ costs
  pub other_keys : SameFrom (2 ^ task_count p) keys₀ keys

module _ {p : Problem} {load cost : List ℕ} (v : Valid p) (o : LevelsOffered p (task_count p * most_levels) load cost) where
  pub knapsacks_fit : {costs keys : List ℕ} → most_sets ≤ length costs → most_sets ≤ length keys →
      KnapsacksFit (task_count p) (level_count p) (span p) load cost costs keys
  knapsacks_fit room keys_room =
      let sets = room_for_sets v.task_count_bound in
      record {
        items_limited = v.task_count_bound;
        affordable = offered_affordable v o;
        costs_for_all = omega arith;
        keys_for_all = omega arith;
      }

  module _ {costs₀ keys₀ costs keys : List ℕ} (filled : KnapsacksFilled (task_count p) (level_count p) (span p) load cost costs₀ keys₀ costs keys) where
    alone_table : CoreTable (load_options p.cores (level_count p) (span p) (offers_of load cost (task_count p)) (options_of p).items)
        (table_at (task_count p) costs keys)
    alone_table = filled_core_table filled p.cores (options_of p).items (item_count p)

    pub ready_to_charge : ChargeReady (task_count p) (idle_cost p * span p) costs
    ready_to_charge =
        charge_ready p.cores (options_of p).items keys (offered_alone v o) (offers_beside_items p) (item_count p) alone_table v.task_count_bound
        filled.tabled.costs_for_all

    pub core_filled : DueAtPeriodEnd p.tasks → {after : List ℕ} → ChargedBelow (task_count p) (idle_cost p * span p) (2 ^ task_count p) costs after → length after ≡ length costs →
        CoreFilled p costs₀ keys₀ after keys
    core_filled due charged same_length =
        record {
          limited =
              one_core_table
              (charged_tabled filled.tabled charged same_length)
              (charged_limited charged filled.costs_limited)
              (λ T of_items. charged_keyed keys charged T of_items (filled.keyed T of_items));
          least =
              core_table_alike (awake_alike p v due)
              (charged_core_table p.cores (options_of p).items keys (offered_alone v o) (offers_beside_items p) (item_count p) alone_table charged);
          other_costs =
              record {
                same_length = same_length ∙ filled.other_costs.same_length;
                as_before = λ x over. charged.from x over ∙ filled.other_costs.as_before x over;
              };
          other_keys = filled.other_keys;
        }
