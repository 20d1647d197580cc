-- Filling the values of all sets on some cores, core after core, from the table of one core.
use Rattle.std.specs.Prelude.{ℕ, suc, pred, ◌+◌, ◌*◌, ◌^◌, ◌≤◌, ◌<◌, ◌≡◌, refl, ◌⊎◌, length}
use Rattle.std.proofs.Common.{ap, ◌∙◌, inl, inr, mul-le-mul_right, arith}
use Rattle.std.proofs.Math.Bool.{Bool}
use mathlib.Core.List.{List}
use Rattle.std.proofs.Math.Nat.{one-le-pow}
use Rattle.std.proofs.Math.ListN.{get_or}
use Rattle.laws.specs.Lists.{list_of, onto}
use Rattle.laws.specs.OntoLaws.{get_d-onto-list_of}
use Rattle.assignment.specs.Limits.{most_items, most_cores, most_core_cost}
use Rattle.assignment.specs.Keys.{key_base}
use Rattle.assignment.specs.Values.{Value, add, Within}
use Rattle.assignment.specs.Words.{no_cost}
use Rattle.assignment.specs.Sets.{set_number, table_at}
use Rattle.assignment.specs.SetLaws.{set_number-below}
use Rattle.assignment.specs.Partition.{moved, best}
use Rattle.assignment.specs.SplitLaws.{rest_length, least_split-parts}
use Rattle.assignment.specs.Bounds.{bounded_within, best_bounded}
use Rattle.partition.specs.Tables.{SmallTable, OneCoreTable, one_core_bounded, small_by_values}
use Rattle.partition.specs.Cores.{CoreReady, CoreAdded}

pub record BestReady (n levels cores : ℕ) (core_costs core_keys costs keys : List ℕ) : Type 0 where
  pub few_items : n ≤ most_items
  pub some_core : 1 ≤ cores
  pub few_cores : cores ≤ most_cores
  pub few_choices : cores * levels < key_base
  pub core_table : OneCoreTable n levels core_costs core_keys
  pub costs_for_all : 2 ^ n ≤ length costs
  pub keys_for_all : 2 ^ n ≤ length keys

-- the table of all sets on the first `cores` cores, of which there is one at least
pub record BestFilled (n levels cores : ℕ) (core_costs core_keys costs keys : List ℕ) : Type 0 where
  pub small : SmallTable n (cores * most_core_cost) costs keys
  pub holds : (S : List Bool) → length S ≡ n →
      table_at n costs keys S ≡ best levels (table_at n core_costs core_keys) (pred cores) S

-- the table of one core is that of the first
pub first_core : {n levels : ℕ} {core_costs core_keys : List ℕ} → OneCoreTable n levels core_costs core_keys →
    BestFilled n levels 1 core_costs core_keys core_costs core_keys
unfolding best
first_core given = record { small = given.small; holds = λ S of_items. refl }

module _ {n levels cores : ℕ} {core_costs core_keys costs keys : List ℕ} (filled : BestFilled n levels cores core_costs core_keys costs keys) where
  -- a copy holds the same values
  pub copied : {costs' keys' : List ℕ} (buffer key_buffer : List ℕ) →
      costs' ≡ onto (list_of (λ x. get_or costs x 0) (2 ^ n)) buffer → keys' ≡ onto (list_of (λ x. get_or keys x 0) (2 ^ n)) key_buffer →
      2 ^ n ≤ length costs' → 2 ^ n ≤ length keys' → BestFilled n levels cores core_costs core_keys costs' keys'
  unfolding table_at
  copied {costs'} {keys'} buffer key_buffer is_copied keys_copied long keys_long =
      record {
        small =
            record {
              costs_for_all = long;
              keys_for_all = keys_long;
              cost_bound = λ x h. rw (cost_at x h) (filled.small.cost_bound x h);
              real_bound = λ x h. rw (cost_at x h) (filled.small.real_bound x h);
              key_bound_lem = λ x h. rw (key_at x h) (filled.small.key_bound_lem x h);
            };
        holds = λ S of_items.
            rw (cost_at (set_number n S) (set_number-below n S), key_at (set_number n S) (set_number-below n S)) (filled.holds S of_items);
      }
    where
      cost_at : (x : ℕ) → x < 2 ^ n → get_or costs' x 0 ≡ get_or costs x 0
      cost_at x h = rw is_copied (get_d-onto-list_of (λ k. get_or costs k 0) buffer (2 ^ n) x 0 h)

      key_at : (x : ℕ) → x < 2 ^ n → get_or keys' x 0 ≡ get_or keys x 0
      key_at x h = rw keys_copied (get_d-onto-list_of (λ k. get_or keys k 0) key_buffer (2 ^ n) x 0 h)

module _ {n levels cores : ℕ} {core_costs core_keys lent_costs lent_keys : List ℕ}
    (ready : BestReady n levels cores core_costs core_keys lent_costs lent_keys) {c : ℕ} (more : c < cores) where
  -- the choices on one core more are still below the key base
  pub next_choices : c * levels < key_base
  next_choices =
      let under : c ≤ cores = omega arith in
      omega (arith, mul-le-mul_right levels under, ready.few_choices)

  module _ (some : 1 ≤ c) {costs keys : List ℕ} (filled : BestFilled n levels c core_costs core_keys costs keys) where
    pub core_ready : CoreReady n (c * levels) core_costs core_keys costs keys
    core_ready =
        record {
          few_items = ready.few_items;
          small_shift = next_choices;
          most_top = most_core_cost;
          most_rest = c * most_core_cost;
          top_table = ready.core_table.small;
          rest_table = filled.small;
          room = omega (arith, ready.few_cores);
        }

    pub next_core : {costs' keys' : List ℕ} → CoreAdded n (c * levels) core_costs core_keys costs keys costs' keys' →
        length costs' ≡ length costs → length keys' ≡ length keys → BestFilled n levels (c + 1) core_costs core_keys costs' keys'
    unfolding best
    next_core {costs'} {keys'} added same_costs same_keys =
        record {
          small =
              small_by_values (omega (arith, filled.small.costs_for_all)) (omega (arith, filled.small.keys_for_all))
              (λ x h. cost_bound x (added.bounded x h)) (λ x h dear. no_key x dear (added.bounded x h)) within;
          holds = holds;
        }
      where
        table : List Bool → Value
        table = table_at n core_costs core_keys

        last : suc (pred c) ≡ c
        last = omega arith

        all : pred (c + 1) ≡ suc (pred c)
        all = omega arith

        holds : (S : List Bool) → length S ≡ n → table_at n costs' keys' S ≡ best levels table (pred (c + 1)) S
        holds S of_items =
            rw (all, last)
            (added.holds S of_items
            ∙ least_split-parts S (λ T R p. ap (add (moved (c * levels) table T)) (filled.holds R (rest_length p ∙ of_items))))

        within : (S : List Bool) → length S ≡ n → Within ((c + 1) * most_core_cost) (key_base ^ n) (table_at n costs' keys' S)
        within S of_items =
            let counted : suc (pred (c + 1)) ≡ c + 1 = omega arith in
            let under : c + 1 ≤ cores = omega arith in
            let choices : suc (pred (c + 1)) * levels < key_base =
            rw counted (omega (arith, mul-le-mul_right levels under, ready.few_choices)) in
            rw (holds S of_items)
            (rw counted at (bounded_within choices (best_bounded (one_core_bounded ready.core_table) (pred (c + 1))) S of_items))

        cost_bound : (x : ℕ) → (get_or costs' x 0 < no_cost) ⊎ ((get_or costs' x 0 ≡ no_cost) × (get_or keys' x 0 ≡ 0)) →
            get_or costs' x 0 ≤ no_cost
        cost_bound x (inl real) = omega arith
        cost_bound x (inr (none, key)) = omega arith

        no_key : (x : ℕ) → no_cost ≤ get_or costs' x 0 →
            (get_or costs' x 0 < no_cost) ⊎ ((get_or costs' x 0 ≡ no_cost) × (get_or keys' x 0 ≡ 0)) → get_or keys' x 0 < key_base ^ n
        no_key x dear (inl real) = absurd (omega arith)
        no_key x dear (inr (none, key)) = rw key (one-le-pow n key_base (omega arith))
