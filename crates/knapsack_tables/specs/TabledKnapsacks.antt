-- The branch of all sets: what filling it asks for, and that the filled tables hold the knapsack of every set.
use Prim.Native.Nat.{ℕ, ◌-◌, ◌^◌, ◌≤◌, ◌<◌}
use Rattle.std.specs.Prelude.{◌≡◌, refl, Bool, List, length, get_or}
use Rattle.std.proofs.Common.{sym, ◌∙◌, mul-one}
use Rattle.std.proofs.Math.Path.{ap}
use Rattle.std.proofs.Math.Nat.{add-zero}
use native.Mathlib.Omega.{arith}
use Rattle.laws.specs.JoinedLaws.{length-list_of}
use Rattle.assignment.specs.Assignment.{Item}
use Rattle.assignment.specs.CoreTables.{CoreTable, Keyed}
use Rattle.knapsack_tables.specs.Branches.{BranchFits}
use Rattle.knapsack_tables.specs.FallingLaws.{falling_flat}
use Rattle.choice_lists.specs.Listed.{FrontListed}
use Rattle.assignment.specs.Limits.{most_items, most_core_cost}
use Rattle.knapsack.specs.Offered.{Affordable, offer_at, offers_of}
use Rattle.knapsack_tables.specs.FilledTables.{Elsewhere, Holds, Filled, filled_same}
use Rattle.knapsack.specs.RelaxedItems.{FlatKnapsack}
use Rattle.assignment.specs.Keys.{key_base}
use Rattle.knapsack.specs.Knapsacks.{knapsack}
use Rattle.knapsack.specs.KnapsackLaws.{knapsack_keyed, knapsack_table}
use Rattle.knapsack.specs.Offers.{load_options}
use Rattle.knapsack.specs.KnapsackSteps.{knapsack_before}
use Rattle.knapsack.specs.KnapsackWords.{knapsack_of}
use Rattle.assignment.specs.SetLaws.{set_number-below}
use Rattle.knapsack.specs.SetNumberLaws.{knapsack_before-set}
use Rattle.assignment.specs.Sets.{set_number, table_at, Tabled}
use Rattle.assignment.specs.Values.{Value, pair}
use Rattle.assignment.specs.Words.{no_cost, words_pair}
use Rattle.knapsack_tables.specs.declared.filling.Branch.{Branch}
use Rattle.knapsack.specs.declared.relaxing.Choice.{Choice}
use Rattle.knapsack.specs.declared.relaxing.Core.{Core}

pub record KnapsacksFit (n levels capacity : ℕ) (load cost costs keys : List ℕ) : Type 0 where
  pub items_limited : n ≤ most_items
  pub affordable : Affordable n levels capacity load cost
  pub costs_for_all : 2 ^ n ≤ length costs
  pub keys_for_all : 2 ^ n ≤ length keys

-- the buffer is as long as before, and its entries from n on are as they were
pub record SameFrom (n : ℕ) (before after : List ℕ) : Type 0 where
  pub same_length : length after ≡ length before
  pub as_before : (x : ℕ) → n ≤ x → get_or after x 0 ≡ get_or before x 0

-- the tables have the knapsack of every set at the whole capacity, and nothing else is written
pub record KnapsacksFilled (n levels capacity : ℕ) (load cost costs₀ keys₀ costs keys : List ℕ) : Type 0 where
  pub tabled : Tabled n (key_base ^ n) (λ S. knapsack levels (offers_of load cost n) S capacity) costs keys
  -- no cost but that of none is above a core's
  pub costs_limited : (x : ℕ) → x < 2 ^ n → get_or costs x 0 < no_cost → get_or costs x 0 ≤ most_core_cost
  -- each key is that of a pattern that keeps exactly the set
  pub keyed : (S : List Bool) → length S ≡ n → Keyed levels S (table_at n costs keys S)
  pub other_costs : SameFrom (2 ^ n) costs₀ costs
  pub other_keys : SameFrom (2 ^ n) keys₀ keys

offers_counted : (load cost : List ℕ) (n : ℕ) → length (offers_of load cost n) ≡ n
unfolding offers_of
offers_counted load cost n = length-list_of (offer_at load cost) n

-- they are the table of a core that takes load up to the capacity
pub filled_core_table : {n levels capacity : ℕ} {load cost costs₀ keys₀ costs keys : List ℕ} →
    KnapsacksFilled n levels capacity load cost costs₀ keys₀ costs keys → (cores : ℕ) (items : List Item) → length items ≡ n →
    CoreTable (load_options cores levels capacity (offers_of load cost n) items) (table_at n costs keys)
unfolding load_options
filled_core_table {n} {levels} {capacity} {load} {cost} filled cores items all =
    let table = knapsack_table cores levels capacity (offers_of load cost n) items (offers_counted load cost n ∙ sym all) in
    record { least = λ T beside. rw (filled.tabled.holds T (beside ∙ all)) (table.least T beside) }

-- where nothing is settled yet
abbrev pub all_sets : Core → (listed n : ℕ) → Branch
all_sets core listed n = record { core = core; listed = listed; ahead = n; places = 0; bit = 1; digit = 1; index = 0 }

module _ {core : Core} {n : ℕ} {load cost costs₀ keys₀ empty_costs empty_keys : List ℕ}
    (fit : KnapsacksFit n core.levels core.capacity load cost costs₀ keys₀)
    (empty : FlatKnapsack 0 0 core.capacity empty_costs empty_keys) where
  -- at load u no item costs nothing
  empty_knapsack : (u : ℕ) → u ≤ core.capacity → knapsack_of empty_costs empty_keys u ≡ pair 0 0
  unfolding knapsack_of
  empty_knapsack u le = rw (empty.each_cost u le, empty.each_key u le) (words_pair 0 0 (omega arith))

  pub all_sets_fit : {listed : ℕ} {points : List Choice} {starts : List ℕ} → listed ≤ n →
      FrontListed core load cost listed (n - listed) points starts →
      BranchFits (all_sets core listed n) load cost points starts empty_costs empty_keys costs₀ keys₀
  unfolding key_base
  all_sets_fit le lists =
      record {
        items_limited = omega (arith, fit.items_limited);
        affordable = fit.affordable;
        bit_is = refl;
        digit_is = refl;
        index_below = omega arith;
        knapsack_held =
            record {
              costs_to_capacity = empty.costs_to_capacity;
              keys_to_capacity = empty.keys_to_capacity;
              small = λ w le.
                  rw (empty.each_cost w le, empty.each_key w le)
                  record { at_most_none = omega arith; real = omega arith; digits = omega arith };
            };
        knapsack_falls = falling_flat (pair 0 0) empty_knapsack;
        listed_ahead = le;
        front_listed = rw add-zero lists;
        costs_for_all = rw add-zero fit.costs_for_all;
        keys_for_all = rw add-zero fit.keys_for_all;
      }

  module _ {costs keys : List ℕ}
      (filled : Filled core.levels core.capacity (offer_at load cost) n 0 1 0 (knapsack_of empty_costs empty_keys)
      costs₀ keys₀ costs keys) where
    entry_of : (x : ℕ) → x < 2 ^ n →
        Holds n (knapsack_before core.levels (offer_at load cost) n 0 x (λ w. pair 0 0) core.capacity) (get_or costs x 0) (get_or keys x 0)
    entry_of x under =
        let at_last = filled_same core.levels core.capacity (offer_at load cost) empty_knapsack filled in
        let held = rw (mul-one x, add-zero x, add-zero n) at (at_last.entries x under) in
        record {
          is =
              held.is;
          small = held.small;
        }

    set_held : (S : List Bool) → length S ≡ n → table_at n costs keys S ≡ knapsack core.levels (offers_of load cost n) S core.capacity
    unfolding table_at
    set_held S e =
        (entry_of (set_number n S) (set_number-below n S)).is
        ∙ ap (λ (f : ℕ → Value). f core.capacity) (knapsack_before-set core.levels load cost n S e)

    -- an entry that is no set's
    no_set : {x : ℕ} → 2 ^ n ≤ x → Elsewhere (2 ^ n) 1 0 x
    no_set over k under e = omega arith

    pub all_sets_filled : length costs ≡ length costs₀ → length keys ≡ length keys₀ →
        KnapsacksFilled n core.levels core.capacity load cost costs₀ keys₀ costs keys
    all_sets_filled same_costs same_keys =
        record {
          tabled =
              record {
                costs_for_all = rw same_costs fit.costs_for_all;
                marks_for_all = rw same_keys fit.keys_for_all;
                holds = set_held;
                cost_bound = λ x under. omega (arith, (entry_of x under).small.at_most_none);
                key_bound_lem = λ x under. (entry_of x under).small.digits;
              };
          costs_limited = λ x under real. omega (arith, (entry_of x under).small.real real, fit.items_limited);
          keyed = λ S e.
              rw (set_held S e)
              (knapsack_keyed core.levels (offers_of load cost n) S core.capacity (e ∙ sym (offers_counted load cost n)));
          other_costs = record { same_length = same_costs; as_before = λ x over. filled.other_costs x (no_set over) };
          other_keys = record { same_length = same_keys; as_before = λ x over. filled.other_keys x (no_set over) };
        }
