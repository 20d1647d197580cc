-- The code's choice is the value to be found: the cores are parted in two, the upper half half of them, rounded down, so that it
-- has at most two.
use Prim.Native.Nat.{ℕ, suc, pred, ◌+◌, ◌-◌, ◌*◌, ◌/◌, ◌^◌, ◌≤◌, ◌<◌}
use Rattle.std.specs.Prelude.{◌≡◌, ◌≢◌, Bool, List, length}
use Rattle.std.proofs.Math.Path.{sym, ap₂}
use Rattle.std.proofs.Common.{ap, ◌∙◌, mul-le-mul_right, le_refl, arith}
use Rattle.assignment.specs.Limits.{most_core_cost}
use Rattle.assignment.specs.Keys.{key_base, weight}
use Rattle.assignment.specs.Values.{pair, add}
use Rattle.assignment.specs.Sets.{table_at}
use Rattle.assignment.specs.Partition.{moved, best}
use Rattle.assignment.specs.SplitLaws.{part_length, least_split-parts}
use Rattle.assignment.specs.Refusing.{every, refusing}
use Rattle.assignment.specs.RefusingLaws.{refusing_same, chosen_on_one, chosen_in_halves}
use Rattle.partition.specs.Tables.{most_sets, room_for_sets, SmallTable}
use Rattle.partition.specs.HalvesTables.{OneReady, HalvesReady, kept_best, least_over_halves}
use Rattle.partition.specs.HalvesLaws.{every_length}
use Rattle.partition.specs.BestFilled.{BestReady, BestFilled, first_core}
use Rattle.values.specs.Items.{items_of}
use Rattle.search.specs.Found.{found_value}
use Rattle.search.specs.FoundLaws.{items_counted, few_choices}
use Rattle.search.specs.Limits.{SearchReady}
use Rattle.search.specs.declared.Shape.{Shape}

abbrev pub lower_cores : Shape → ℕ
lower_cores shape = shape.cores - shape.cores / 2

module _ {shape : Shape} {refusal : List ℕ} {must : List Bool} {core_costs core_keys : List ℕ}
    (ready : SearchReady shape refusal must core_costs core_keys) where
  lower_choices : lower_cores shape * shape.levels < key_base
  lower_choices =
      let under : lower_cores shape ≤ shape.cores = omega arith in
      omega (arith, mul-le-mul_right shape.levels under, few_choices ready)

  pub shift_fits : lower_cores shape * shape.levels < 2 ^ 64
  unfolding key_base
  shift_fits = omega (arith, lower_choices)

  pub lower_ready : {costs keys : List ℕ} → most_sets ≤ length costs → most_sets ≤ length keys →
      BestReady shape.items shape.levels (lower_cores shape) core_costs core_keys costs keys
  lower_ready long keys_long =
      let limits = ready.shape_limited in
      let room = room_for_sets limits.items in
      record {
        few_items = limits.items;
        some_core = omega (arith, limits.some_core);
        few_cores = omega (arith, limits.cores);
        few_choices = lower_choices;
        core_table = ready.core_table;
        costs_for_all = omega arith;
        keys_for_all = omega arith;
      }

  module _ {costs keys : List ℕ} (filled : BestFilled shape.items shape.levels (lower_cores shape) core_costs core_keys costs keys) where
    pub alone_ready : OneReady shape.items refusal must costs keys
    alone_ready =
        let limits = ready.shape_limited in
        record {
          few_items = limits.items;
          refusals_long = ready.refusals_for_all;
          musts_long = ready.musts_for_all;
          refusal_bound = ready.refusals_limited;
          most = lower_cores shape * most_core_cost;
          table = filled.small;
          room = omega (arith, limits.items, limits.cores);
        }

    halves_ready : {tops top_keys : List ℕ} (above : ℕ) → above ≤ 2 → SmallTable shape.items (above * most_core_cost) tops top_keys →
        HalvesReady shape.items (lower_cores shape * shape.levels) tops top_keys refusal must costs keys
    unfolding alone_ready
    halves_ready above few small =
        let limits = ready.shape_limited in
        record {
          small_shift = lower_choices;
          most_top = above * most_core_cost;
          top_table = small;
          lower = alone_ready;
          room = omega (arith, limits.items, limits.cores);
        }

    pub core_above_ready : HalvesReady shape.items (lower_cores shape * shape.levels) core_costs core_keys refusal must costs keys
    core_above_ready = halves_ready 1 (omega arith) (first_core ready.core_table).small

    pub table_above_ready : HalvesReady shape.items (lower_cores shape * shape.levels) costs keys refusal must costs keys
    table_above_ready = halves_ready (lower_cores shape) (omega (arith, ready.shape_limited.cores)) filled.small

    -- keeping what is best, by the table
    kept_best_lem : (R : List Bool) →
        kept_best shape.items refusal must costs keys R
        ≡ refusing (items_of refusal must shape.items)
        (best shape.levels (table_at shape.items core_costs core_keys) (pred (lower_cores shape))) R
    unfolding kept_best
    kept_best_lem R = refusing_same _ (λ S h. filled.holds S (h ∙ items_counted refusal must shape.items)) R

    pub alone_chosen : shape.cores / 2 ≡ 0 →
        kept_best shape.items refusal must costs keys (every shape.items) ≡ found_value shape refusal must core_costs core_keys
    unfolding found_value best
    alone_chosen none =
        let first : pred (lower_cores shape) ≡ 0 = omega (arith, ready.shape_limited.some_core) in
        let one : pred shape.cores ≡ 0 = omega (arith, ready.shape_limited.some_core) in
        let items = items_of refusal must shape.items in
        let table = table_at shape.items core_costs core_keys in
        rw one
        (rw first at (kept_best_lem (every shape.items))
        ∙ sym (rw (items_counted refusal must shape.items) at (chosen_on_one shape.levels items table)))

    halves_chosen : {tops top_keys : List ℕ} (above : ℕ) → 1 ≤ above → shape.cores ≡ lower_cores shape + above →
        BestFilled shape.items shape.levels above core_costs core_keys tops top_keys →
        least_over_halves shape.items (lower_cores shape * shape.levels) tops top_keys refusal must costs keys
        ≡ found_value shape refusal must core_costs core_keys
    unfolding least_over_halves found_value moved
    halves_chosen {tops} {top_keys} above some counted top_filled =
        let n = shape.items in
        let below = lower_cores shape in
        let last : suc (pred below) ≡ below = omega (arith, ready.shape_limited.some_core) in
        let all : pred shape.cores ≡ suc (pred below + pred above) = omega (arith, ready.shape_limited.some_core) in
        let halves = chosen_in_halves shape.levels (items_of refusal must n) (table_at n core_costs core_keys) (pred below) (pred above) in
        rw all
        (least_split-parts (every n)
        (λ U R p.
        ap₂ add (ap (add (pair 0 (below * shape.levels * weight U))) (top_filled.holds U (part_length p ∙ every_length n))) (kept_best_lem R))
        ∙ sym (rw (last, items_counted refusal must n) at halves))

    pub core_above_chosen : shape.cores / 2 ≡ 1 →
        least_over_halves shape.items (lower_cores shape * shape.levels) core_costs core_keys refusal must costs keys
        ≡ found_value shape refusal must core_costs core_keys
    core_above_chosen one = halves_chosen 1 (le_refl 1) (omega arith) (first_core ready.core_table)

    pub table_above_chosen : shape.cores / 2 ≢ 0 → shape.cores / 2 ≢ 1 →
        least_over_halves shape.items (lower_cores shape * shape.levels) costs keys refusal must costs keys
        ≡ found_value shape refusal must core_costs core_keys
    table_above_chosen some more =
        let most = ready.shape_limited.cores in
        halves_chosen (lower_cores shape) (omega arith) (omega arith) filled
