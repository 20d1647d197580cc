-- The lowest table: of each set what is later taken off its cost, and the least key of its patterns.
use Rattle.std.specs.Prelude.{ℕ, pred, ◌+◌, ◌-◌, ◌*◌, ◌^◌, ◌≤◌, ◌<◌, Bool, List, ◌≡◌, length, set}
use Rattle.std.proofs.Math.Path.{refl, sym}
use Rattle.std.proofs.Common.{◌∙◌, mul-le-mul, zero-mul, below_more, pow_pos, get_or-set_same, get_or-set_other}
use native.Mathlib.Omega.{arith}
use Rattle.std.proofs.Math.ListN.{get_or}
use Rattle.assignment.specs.Assignment.{Options}
use Rattle.assignment.specs.CoreTables.{Admitted, pattern_worth, Keyed}
use Rattle.assignment.specs.Keys.{weight}
use Rattle.assignment.specs.Limits.{most_cost, most_core_cost, most_items}
use Rattle.assignment.specs.SetLaws.{set_number-below, numbered}
use Rattle.assignment.specs.Sets.{set_number, table_at}
use Rattle.assignment.specs.Values.{pair, AtMost}
use Rattle.assignment.specs.Words.{words_pair}
use Rattle.core_tables.specs.AwakeCores.{size, surplus}
use Rattle.core_tables.specs.ChargedTables.{SizesBelow, taken_once_less}
use Rattle.core_tables.specs.SetSizes.{items_in, items_in-at_most, items_in-empty, items_in-set, items_in-some}
use Rattle.partition.specs.Tables.{SmallTable}
use Rattle.raising.specs.ChargedOptions.{CostsCounted}
use Rattle.raising.specs.LeastKeys.{weight_digits, weight_first, weight_keyed}
use Rattle.raising.specs.TimedSites.{SetsWeighed}

-- what filling it asks
pub record LowestReady (n whole : ℕ) (costs keys : List ℕ) : Type 0 where
  pub few_items : n ≤ most_items
  pub whole_limited : whole ≤ most_cost
  pub costs_for_all : 2 ^ n ≤ length costs
  pub keys_for_all : 2 ^ n ≤ length keys
  pub empty : get_or costs 0 0 ≡ 0

-- the sets with numbers below x have their costs, the others still their sizes
pub record LowestBelow (n whole x : ℕ) (costs : List ℕ) : Type 0 where
  pub below : (y : ℕ) → y < x → get_or costs y 0 ≡ surplus whole (items_in n y)
  pub from : (y : ℕ) → x ≤ y → y < 2 ^ n → get_or costs y 0 ≡ items_in n y

pub record LowestTable (n whole : ℕ) (costs keys : List ℕ) : Type 0 where
  pub costs_for_all : 2 ^ n ≤ length costs
  pub surpluses : LowestBelow n whole (2 ^ n) costs
  pub weighed : SetsWeighed n keys

surplus_at_most : {n whole : ℕ} → n ≤ most_items → whole ≤ most_cost → (x : ℕ) → surplus whole (items_in n x) ≤ most_core_cost
unfolding surplus
surplus_at_most {n} few limited x =
    let less : pred (items_in n x) ≤ most_items = omega (arith, items_in-at_most n x) in
    mul-le-mul less limited

-- set after set

module _ {n whole : ℕ} where
  pub no_cost_yet : {sizes : List ℕ} → SizesBelow n (2 ^ n) sizes → LowestBelow n whole 1 sizes
  unfolding surplus
  no_cost_yet {sizes} sized = record { below = below; from = λ y h. sized.at y }
    where
      below : (y : ℕ) → y < 1 → get_or sizes y 0 ≡ surplus whole (items_in n y)
      below y first =
          let empty : y ≡ 0 = omega arith in
          rw (empty, items_in-empty n) (sized.at 0 (pow_pos n) ∙ items_in-empty n ∙ sym (zero-mul whole))

  module _ {x : ℕ} {costs : List ℕ} (so_far : LowestBelow n whole x costs) (some : 1 ≤ x) (under : x < 2 ^ n) where
    pub some_item : 1 ≤ get_or costs x 0
    some_item = rw (so_far.from x (omega arith) under) (items_in-some n x some under)

    next_cost : (get_or costs x 0 - 1) * whole ≡ surplus whole (items_in n x)
    next_cost = rw (so_far.from x (omega arith) under) (taken_once_less whole (items_in n x) (items_in-some n x some under))

    pub next_cost_fits : n ≤ most_items → whole ≤ most_cost → (get_or costs x 0 - 1) * whole < 2 ^ 64
    next_cost_fits few limited = omega (arith, next_cost, surplus_at_most {n = n} few limited x)

    pub one_cost_more : x < length costs → LowestBelow n whole (x + 1) (set costs x ((get_or costs x 0 - 1) * whole))
    one_cost_more room =
        let cost = (get_or costs x 0 - 1) * whole in
        record {
          below =
              below_more (λ y. get_or (set costs x cost) y 0 ≡ surplus whole (items_in n y)) x
              (λ y h. get_or-set_other costs x y cost 0 (λ same. omega arith) ∙ so_far.below y h)
              (get_or-set_same costs x cost 0 room ∙ next_cost);
          from = λ y h within. get_or-set_other costs x y cost 0 (λ same. omega arith) ∙ so_far.from y (omega arith) within;
        }

-- its entries are nowhere above the least values

module _ {n whole : ℕ} {costs keys : List ℕ} (few_items : n ≤ most_items) (whole_limited : whole ≤ most_cost) (table : LowestTable n whole costs keys) where
  cost_at_most : (x : ℕ) → x < 2 ^ n → get_or costs x 0 ≤ most_core_cost
  cost_at_most x under = rw (table.surpluses.below x under) (surplus_at_most few_items whole_limited x)

  pub lowest_small : SmallTable n most_core_cost costs keys
  lowest_small =
      record {
        costs_for_all = table.costs_for_all;
        keys_for_all = table.weighed.for_all;
        cost_bound = λ x under. omega (arith, cost_at_most x under);
        real_bound = λ x under real. cost_at_most x under;
        key_bound_lem = λ x under.
            let s = numbered n x under in
            rw (← s.number, table.weighed.each.at s.set s.of_items (set_number-below n s.set)) (weight_digits s.set s.of_items);
      }

  pub lowest_counted : (x : ℕ) → x < 2 ^ n → surplus whole (items_in n x) ≤ get_or costs x 0
  lowest_counted x under = omega (arith, table.surpluses.below x under)

  lowest_value : (S : List Bool) → length S ≡ n → table_at n costs keys S ≡ pair (surplus whole (size S)) (weight S)
  unfolding table_at
  lowest_value S of_items =
      let x = set_number n S in
      let under = set_number-below n S in
      words_pair (get_or costs x 0) (get_or keys x 0) (omega (arith, cost_at_most x under))
      ∙ rw (table.surpluses.below x under, items_in-set n S of_items, table.weighed.each.at S of_items under) refl

  pub lowest_keyed : {levels : ℕ} → 1 ≤ levels → (S : List Bool) → length S ≡ n → Keyed levels S (table_at n costs keys S)
  lowest_keyed some S of_items = rw (lowest_value S of_items) (weight_keyed some S (surplus whole (size S)))

  pub lowest_lower : {o : Options} → CostsCounted whole n o → (S : List Bool) → length S ≡ n → (pattern : List ℕ) → Admitted o S pattern →
      AtMost (table_at n costs keys S) (pattern_worth o pattern)
  lowest_lower {o} counted S of_items pattern admitted =
      rw (lowest_value S of_items) (weight_first o admitted.keeps (counted.at_least S of_items pattern admitted))
