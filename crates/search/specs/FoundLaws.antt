-- From the value that the table comes to, to the answer and to the best plan.
use Prim.Native.Nat.{ℕ, suc, pred, ◌+◌, ◌*◌, ◌^◌, ◌≤◌, ◌<◌}
use Rattle.std.specs.Prelude.{◌≡◌, refl, Bool, List, length, Option, Some, None}
use Rattle.std.proofs.Common.{subst, zero-add, arith}
use Rattle.std.proofs.Math.Nat.{mul-le-mul}
use Rattle.laws.specs.Lists.{onto}
use Rattle.laws.specs.JoinedLaws.{length-list_of}
use Rattle.assignment.specs.Limits.{most_cost, most_core_cost}
use Rattle.assignment.specs.Assignment.{Options}
use Rattle.assignment.specs.Keys.{key_base, digits}
use Rattle.assignment.specs.Values.{Value, none, pair, Within}
use Rattle.assignment.specs.Words.{no_cost, value_of, words_none, words_pair, words_within}
use Rattle.assignment.specs.Sets.{table_at}
use Rattle.assignment.specs.CoreTables.{CoreTable}
use Rattle.assignment.specs.Partition.{best}
use Rattle.assignment.specs.Choice.{chosen}
use Rattle.assignment.specs.Bounds.{bounded_within, best_bounded}
use Rattle.assignment.specs.Refusing.{every}
use Rattle.assignment.specs.RefusingLaws.{holding_is_refusing}
use Rattle.assignment.specs.SearchTheorem.{BestAnswers, search_finds_best}
use Rattle.partition.specs.HalvesLaws.{every_length}
use Rattle.partition.specs.ItemsFrom.{items_from_first}
use Rattle.partition.specs.RefusingBounds.{refusing_within}
use Rattle.partition.specs.Tables.{one_core_bounded}
use Rattle.values.specs.Items.{item_at, items_of}
use Rattle.search.specs.Found.{found_value, Tells, Searched, BestFound}
use Rattle.search.specs.Limits.{SearchReady}
use Rattle.search.specs.declared.Shape.{Shape}

pub items_counted : (refusal : List ℕ) (must : List Bool) (n : ℕ) → length (items_of refusal must n) ≡ n
unfolding items_of
items_counted refusal must n = length-list_of (item_at refusal must) n

module _ {shape : Shape} {refusal : List ℕ} {must : List Bool} {core_costs core_keys : List ℕ}
    (ready : SearchReady shape refusal must core_costs core_keys) where
  -- every choice is a digit of a key
  pub few_choices : shape.cores * shape.levels < key_base
  unfolding key_base
  few_choices = omega (arith, mul-le-mul ready.shape_limited.cores ready.shape_limited.levels)

  found_within :
      Within (shape.cores * most_core_cost + shape.items * most_cost) (key_base ^ shape.items) (found_value shape refusal must core_costs core_keys)
  unfolding found_value chosen
  found_within =
      let n = shape.items in
      let table = table_at n core_costs core_keys in
      let all : suc (pred shape.cores) ≡ shape.cores = omega (arith, ready.shape_limited.some_core) in
      let value = holding_is_refusing (items_of refusal must n) (best shape.levels table (pred shape.cores)) in
      let bounded = best_bounded (one_core_bounded ready.core_table) (pred shape.cores) in
      rw (value, items_counted refusal must n, ← items_from_first)
      (refusing_within refusal must (key_base ^ n) n 0 (shape.cores * most_core_cost) (best shape.levels table (pred shape.cores))
      (λ j h. rw (zero-add j) (ready.refusals_limited j h)) (bounded_within few_choices (rw all at bounded)) (every n) (every_length n))

  module _ (cost key : ℕ) (is : value_of cost key ≡ found_value shape refusal must core_costs core_keys) where
    pub found_key : cost < no_cost → key < key_base ^ shape.items
    found_key real = let within = rw (← is) at found_within in (words_within cost key real within).1

    pub cheapest_told : {before after : List ℕ} → cost < no_cost → after ≡ onto (digits shape.items key) before →
        Searched shape refusal must core_costs core_keys before after (Some cost)
    cheapest_told real written = record { told = rw (← is, words_pair cost key real) (refl, written) }

    pub none_told : {before : List ℕ} → no_cost ≤ cost → Searched shape refusal must core_costs core_keys before before None
    none_told dear = record { told = rw (← is, words_none cost key dear) (refl, refl) }

-- a value that answers for the options is told as the best plan
pub told_is_best : (n : ℕ) (o : Options) (v : Value) (before after : List ℕ) (found : Option ℕ) → length o.items ≡ n →
    Tells n v before after found → BestAnswers o v → BestFound o before after found
told_is_best n o none before after found counted (is, same) answers = rw is (answers, same)
told_is_best n o (pair cost key) before after found counted (is, written) (first, costs) =
    rw is
    (record {
      plan = digits n key;
      is_best = rw counted at first;
      costs = rw counted at costs;
      written = written;
    })

-- What the search answers is the best plan of any options with these cores, levels and items, where the table holds the least
-- value of each set over the patterns that one of their cores admits.
pub search_is_best : {shape : Shape} {refusal : List ℕ} {must : List Bool} {core_costs core_keys before after : List ℕ} {found : Option ℕ} →
    SearchReady shape refusal must core_costs core_keys → Searched shape refusal must core_costs core_keys before after found → (o : Options) →
    o.cores ≡ shape.cores → o.levels ≡ shape.levels → o.items ≡ items_of refusal must shape.items →
    CoreTable o (table_at shape.items core_costs core_keys) → BestFound o before after found
unfolding found_value
search_is_best {shape} {refusal} {must} {core_costs} {core_keys} {before} {after} {found} ready searched o same_cores same_levels same_items core =
    told_is_best shape.items o (found_value shape refusal must core_costs core_keys) before after found counted searched.told
    (subst (BestAnswers o) value
    (search_finds_best o (table_at shape.items core_costs core_keys) core (rw same_cores ready.shape_limited.some_core)
    (rw (same_cores, same_levels) (few_choices ready))))
  where
    value : chosen o.levels o.items (table_at shape.items core_costs core_keys) (pred o.cores)
        ≡ found_value shape refusal must core_costs core_keys
    value = rw (same_cores, same_levels, same_items)

    counted : length o.items ≡ shape.items
    counted = rw same_items (items_counted refusal must shape.items)
