-- Refusing in the table of the lower cores, and adding the upper cores, come to the least value over the halves.
use Rattle.std.specs.Prelude.{ℕ, zero, suc, ◌+◌, ◌-◌, ◌*◌, ◌^◌, ◌≤◌, ◌<◌, ◌≡◌, refl, ◌⊎◌, Bool, List, length, get_or}
use Rattle.std.proofs.Common.{sym, ◌∙◌, inl, inr, zero-add, pow-suc, arith, pow_pos}
use Rattle.std.proofs.Math.Path.{ap}
use Rattle.std.proofs.Math.Nat.{pow-zero}
use Rattle.assignment.specs.Limits.{most_cost}
use Rattle.assignment.specs.Keys.{key_base}
use Rattle.assignment.specs.Values.{add, Within}
use Rattle.assignment.specs.Words.{no_cost, value_of}
use Rattle.assignment.specs.Sets.{set_number, table_at}
use Rattle.assignment.specs.SetLaws.{set_number-below}
use Rattle.assignment.specs.Partition.{least_split, moved}
use Rattle.assignment.specs.SplitLaws.{rest_length, least_split-parts}
use Rattle.assignment.specs.Refusing.{every}
use Rattle.assignment.specs.RefusingLaws.{refusing_same}
use Rattle.assignment.specs.Entries.{entry_at, NoDearer}
use Rattle.partition.specs.ItemsFrom.{items_from_first}
use Rattle.partition.specs.Tables.{SmallTable, small_within, small_by_values}
use Rattle.partition.specs.Cores.{CoreReady}
use Rattle.partition.specs.RefusedTables.{RefuseReady, RefusedFrom}
use Rattle.partition.specs.RefusingBounds.{refusing_within}
use Rattle.partition.specs.RefuseSteps.{no_dearer_cost}
use Rattle.partition.specs.HalvesTables.{OneReady, HalvesReady, kept_best, least_over_halves}

-- the set of all items has the last number
pub every_length : (n : ℕ) → length (every n) ≡ n
unfolding every
every_length zero = refl
every_length (suc n) = ap suc (every_length n)

every_number : (n : ℕ) → set_number n (every n) ≡ 2 ^ n - 1
unfolding every set_number
every_number zero = omega (arith, pow-zero 2)
every_number (suc n) = omega (arith, every_number n, pow-suc 2 n, pow_pos n)

module _ {n : ℕ} {refusal : List ℕ} {must : List Bool} {costs keys : List ℕ} (ready : OneReady n refusal must costs keys) where
  pub all_ready : {size : ℕ} → size ≡ 2 ^ n → RefuseReady size 0 0 refusal must costs keys
  all_ready {size} all =
      let table = ready.table in
      record {
        left = n;
        is_power = all;
        refusals_long = omega (arith, ready.refusals_long);
        musts_long = omega (arith, ready.musts_long);
        costs_long = omega (arith, table.costs_for_all);
        keys_long = omega (arith, table.keys_for_all);
        refusal_bound = λ j h. rw (zero-add j) (ready.refusal_bound j h);
        cost_bound = λ x h. rw (zero-add x) (table.cost_bound x (rw (← all) h));
        most = ready.most;
        key_bound = key_base ^ n;
        small = λ x h. rw (zero-add x) (small_within table x (rw (← all) h));
        room = ready.room;
      }

  module _ {size : ℕ} {costs' keys' : List ℕ} (all : size ≡ 2 ^ n) (refused : RefusedFrom size 0 0 refusal must costs keys costs' keys') where
    kept_value : (S : List Bool) → length S ≡ n → table_at n costs' keys' S ≡ kept_best n refusal must costs keys S
    unfolding kept_best table_at entry_at
    kept_value S of_items =
        rw (← items_from_first)
        (ap (entry_at costs' keys') (sym (zero-add (set_number n S)))
        ∙ (refused.all n all).there S of_items
        ∙ refusing_same _ (λ R h. ap (entry_at costs keys) (zero-add (set_number n R))) S)

    no_dearer : NoDearer costs keys costs' keys'
    no_dearer = (refused.all n all).no_dearer

    kept_within : (S : List Bool) → length S ≡ n →
        Within (ready.most + n * most_cost) (key_base ^ n) (table_at n costs' keys' S)
    unfolding kept_best table_at entry_at
    kept_within S of_items =
        rw (kept_value S of_items, ← items_from_first)
        (refusing_within refusal must (key_base ^ n) n 0 ready.most (table_at n costs keys)
        (λ j h. rw (zero-add j) (ready.refusal_bound j h)) (λ R h. small_within ready.table (set_number n R) (set_number-below n R)) S of_items)

    -- where there is no cost, the key is no larger than it was
    no_key : (x : ℕ) → x < 2 ^ n → no_cost ≤ get_or costs' x 0 →
        (get_or costs' x 0 < get_or costs x 0) ⊎ ((get_or costs' x 0 ≡ get_or costs x 0) × (get_or keys' x 0 ≤ get_or keys x 0)) →
        get_or keys' x 0 < key_base ^ n
    no_key x h dear (inl less) = absurd (omega (arith, ready.table.cost_bound x h))
    no_key x h dear (inr (same, le)) = omega (arith, ready.table.key_bound_lem x h)

    pub refused_table : length costs' ≡ length costs → length keys' ≡ length keys →
        SmallTable n (ready.most + n * most_cost) costs' keys'
    refused_table same_costs same_keys =
        small_by_values (omega (arith, ready.table.costs_for_all)) (omega (arith, ready.table.keys_for_all))
        (λ x h. omega (arith, no_dearer_cost no_dearer x, ready.table.cost_bound x h))
        (λ x h dear. no_key x h dear (no_dearer.at x)) kept_within

    pub least_on_one : value_of (get_or costs' (size - 1) 0) (get_or keys' (size - 1) 0) ≡ kept_best n refusal must costs keys (every n)
    unfolding table_at
    least_on_one =
        let last : size - 1 ≡ set_number n (every n) = omega (arith, every_number n) in
        rw last (kept_value (every n) (every_length n))

module _ {n shift : ℕ} {tops top_keys refusal : List ℕ} {must : List Bool} {costs keys : List ℕ}
    (ready : HalvesReady n shift tops top_keys refusal must costs keys) where
  pub halves_core : {costs' keys' : List ℕ} → SmallTable n (ready.lower.most + n * most_cost) costs' keys' →
      CoreReady n shift tops top_keys costs' keys'
  halves_core rests =
      record {
        few_items = ready.lower.few_items;
        small_shift = ready.small_shift;
        most_top = ready.most_top;
        most_rest = ready.lower.most + n * most_cost;
        top_table = ready.top_table;
        rest_table = rests;
        room = ready.room;
      }

  pub least_over_halves_lem : {size : ℕ} {costs' keys' : List ℕ} → size ≡ 2 ^ n → RefusedFrom size 0 0 refusal must costs keys costs' keys' →
      least_split (every n) (λ U R. add (moved shift (table_at n tops top_keys) U) (table_at n costs' keys' R))
      ≡ least_over_halves n shift tops top_keys refusal must costs keys
  unfolding least_over_halves
  least_over_halves_lem all refused =
      least_split-parts (every n)
      (λ U R p.
      ap (add (moved shift (table_at n tops top_keys) U)) (kept_value ready.lower all refused R (rest_length p ∙ every_length n)))
