-- Where what a node is worth and the table's value of the items still to come do not come before the best so far, nothing does.
use Rattle.std.specs.Prelude.{ℕ, ◌+◌, ◌-◌, ◌*◌, ◌^◌, ◌≤◌, ◌<◌, Bool, false, List, ◌⊎◌, ◌≡◌, refl, get_or, replicate}
use Rattle.std.proofs.Math.Path.{sym, ap}
use Rattle.std.proofs.Common.{◌∙◌, lt_of_lt_of_le, arith, length-append, pow-add, pow_mono}
use Rattle.std.proofs.Math.Arith.{digits_lt}
use Rattle.std.proofs.Math.ListN.{length}
use Rattle.std.proofs.lemmas.List.{length-replicate}
use Rattle.assignment.specs.KeyLaws.{keys_fit}
use Rattle.assignment.specs.Keys.{key_base}
use Rattle.assignment.specs.SetLaws.{set_number-below}
use Rattle.assignment.specs.Sets.{set_number, table_at}
use Rattle.assignment.specs.Values.{Value, pair, add, AtMost, to_none}
use Rattle.assignment.specs.ValueLaws.{at_most-trans}
use Rattle.assignment.specs.LeastLaws.{add_none}
use Rattle.assignment.specs.Words.{no_cost, value_of, words_add, words-at_most, words_none, words_pair}
use Rattle.knapsack.specs.Offered.{offers_of}
use Rattle.values.specs.declared.value.Worth.{Worth}
use Rattle.lagrangian.specs.TimedItems.{timed_core}
use Rattle.lagrangian.specs.Reached.{Reached}
use Rattle.lagrangian.specs.TimedCores.{timings_of}
use Rattle.lagrangian.specs.declared.Timed.{Timed}
use Rattle.lagrangian.specs.FrontKeyLaws.{power_above_0}
use Rattle.timed_parts.specs.BoundLaws.{unflagged, left_out_number, left_out_admitted, bound_below}
use Rattle.timed_parts.specs.Nodes.{NothingBefore, Stands}
use Rattle.timed_sets.specs.Found.{LowerTimed}
use Rattle.timed_parts.specs.declared.Node.{Node}

module _ {timed : Timed} {timings cost low_costs low_keys q : List ℕ} {T : List Bool} {node : Node}
    (table : LowerTimed timed timings cost low_costs low_keys) (stands : Stands timed timings cost node q T) where
  pub rest_below : node.rest < 2 ^ timed.items
  rest_below =
      let fewer : length T ≤ timed.items = omega (arith, stands.behind) in
      rw stands.rest (lt_of_lt_of_le (set_number-below (length T) T) (pow_mono fewer))

  -- the node's key, moved before the digits of the items to come
  moved_key_below : node.key * key_base ^ (timed.items - node.item) < key_base ^ timed.items
  moved_key_below =
      let all : node.item + (timed.items - node.item) ≡ timed.items = omega (arith, stands.behind) in
      let some : 0 < key_base ^ (timed.items - node.item) = power_above_0 (timed.items - node.item) in
      rw (sym (ap (λ (n : ℕ). key_base ^ n) all) ∙ pow-add key_base node.item (timed.items - node.item))
      (omega (arith, digits_lt stands.key_below some))

  pub bound_cost_fits : (low : ℕ) → low ≤ no_cost → node.cost + low < 2 ^ 64
  bound_cost_fits low cheap = omega (arith, stands.cheap, table.few_items, stands.behind)

  pub bound_key_fits : (power key : ℕ) → power ≡ key_base ^ (timed.items - node.item) → key < key_base ^ timed.items →
      (node.key * power < 2 ^ 64) × (node.key * power + key < 2 ^ 64)
  bound_key_fits power key is few =
      rw is (
        omega (arith, moved_key_below, keys_fit {n = timed.items} table.few_items),
        omega (arith, moved_key_below, keys_fit {n = timed.items} table.few_items),
      )

  of_items : length (unflagged q T) ≡ timed.items
  of_items =
      length-append (replicate (length q) false) T ∙ omega (arith, length-replicate (length q) false, stands.front, stands.behind)

  its_entry : table_at timed.items low_costs low_keys (unflagged q T) ≡ value_of (get_or low_costs node.rest 0) (get_or low_keys node.rest 0)
  unfolding table_at
  its_entry =
      let all : length q + length T ≡ timed.items = omega (arith, stands.front, stands.behind) in
      let number : set_number timed.items (unflagged q T) ≡ node.rest = rw (← all) (left_out_number q T ∙ sym stands.rest) in
      ap (λ (x : ℕ). value_of (get_or low_costs x 0) (get_or low_keys x 0)) number

  below : {u : Value} → Reached (timed_core timed timings cost) q T node.level u →
      AtMost (add (pair node.cost (node.key * key_base ^ (timed.items - node.item))) (value_of (get_or low_costs node.rest 0) (get_or low_keys node.rest 0))) u
  below reached =
      let left : timed.items - node.item ≡ length T = omega (arith, stands.behind) in
      rw (left, stands.costs, stands.key, ← its_entry)
      (bound_below (timed_core timed timings cost) (offers_of _ cost timed.items) (λ pattern. refl)
      (left_out_admitted (timings_of timings timed.items) timed.span) timed.items low_costs low_keys table.lower of_items reached)

  pub none_to_come : {best : Worth} → no_cost ≤ get_or low_costs node.rest 0 → NothingBefore timed timings cost node q T best
  none_to_come dear =
      record {
        after = λ u reached.
            at_most-trans to_none
            (rw (words_none _ (get_or low_keys node.rest 0) dear, add_none (pair node.cost (node.key * key_base ^ (timed.items - node.item)))) at (below reached));
      }

  pub bound_not_first : {best : Worth} → get_or low_costs node.rest 0 < no_cost →
      (best.cost < node.cost + get_or low_costs node.rest 0)
      ⊎ ((best.cost ≡ node.cost + get_or low_costs node.rest 0)
      × (best.key ≤ node.key * key_base ^ (timed.items - node.item) + get_or low_keys node.rest 0)) →
      NothingBefore timed timings cost node q T best
  bound_not_first {best} real order =
      let here : node.cost < no_cost = omega (arith, stands.cheap, table.few_items, stands.behind) in
      let low = get_or low_costs node.rest 0 in
      let fits : node.cost + low < no_cost = omega
      (arith, stands.cheap, table.few_items, stands.behind, table.small.real_bound node.rest rest_below real) in
      let sum = words_add node.cost (node.key * key_base ^ (timed.items - node.item)) low (get_or low_keys node.rest 0) (λ a b. fits) in
      record {
        after = λ u reached.
            at_most-trans (words-at_most best.cost best.key _ _ order)
            (rw (← words_pair node.cost (node.key * key_base ^ (timed.items - node.item)) here, sum) at (below reached));
      }
