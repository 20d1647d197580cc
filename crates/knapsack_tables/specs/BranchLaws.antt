-- From a branch of the sets to the two below it, and back from what these fill in.
use Rattle.std.specs.Prelude.{ℕ, suc, ◌+◌, ◌*◌, ◌-◌, ◌^◌, ◌≤◌, ◌<◌, ◌≡◌, refl, List, length}
use Rattle.std.proofs.Common.{sym, ap, ◌∙◌, pow-suc, arith}
use Rattle.std.proofs.Math.Nat.{pow-le-pow_right}
use Rattle.knapsack.specs.Offers.{Offer}
use Rattle.assignment.specs.KeyLaws.{keys_fit}
use Rattle.knapsack_tables.specs.Branches.{NextFits, BranchFits, BranchFilled}
use Rattle.knapsack_tables.specs.Branches.{next_item, settled, without_next, with_next}
use Rattle.knapsack_tables.specs.FallingLaws.{falling_same, falling_with_item}
use Rattle.knapsack_tables.specs.FilledTables.{Holds, filled_same, filled_both}
use Rattle.choice_lists.specs.Listed.{Falling}
use Rattle.assignment.specs.Limits.{most_capacity, most_items, most_levels}
use Rattle.knapsack.specs.Offered.{offer_at, Affordable}
use Rattle.knapsack.specs.RelaxedItems.{ItemBefore, KnapsackWithItem}
use Rattle.assignment.specs.Keys.{key_base}
use Rattle.knapsack.specs.KnapsackSteps.{with_item}
use Rattle.knapsack.specs.KnapsackWords.{KnapsackHeld, knapsack_of, LeastAt, least_of_all_levels}
use Rattle.values.specs.Worths.{Small}
use Rattle.assignment.specs.Values.{Value}
use Rattle.knapsack.specs.declared.relaxing.Choice.{Choice}
use Rattle.knapsack_tables.specs.declared.filling.Branch.{Branch}

-- a knapsack of fewer items is within the limits of more
small_for_more : {m c k : ℕ} → Small m c k → Small (suc m) c k
unfolding key_base
small_for_more {m} small =
    record {
      at_most_none = small.at_most_none;
      real = λ h. omega (arith, small.real h);
      digits = omega (arith, small.digits, pow-suc key_base m);
    }

affordable_without_last : {n levels capacity : ℕ} {load cost : List ℕ} → Affordable (suc n) levels capacity load cost →
    Affordable n levels capacity load cost
affordable_without_last a =
    record {
      levels_limited = a.levels_limited;
      capacity_limited = a.capacity_limited;
      loads_for_all = omega (arith, a.loads_for_all);
      costs_for_all = omega (arith, a.costs_for_all);
      cheap = λ i under. a.cheap i (omega arith);
    }

least_holds : {levels m w c k : ℕ} {offer : Offer} {rest : ℕ → Value} → levels ≤ most_levels →
    LeastAt offer m levels rest w c k → Holds (suc m) (with_item levels offer m rest w) c k
unfolding with_item
least_holds few least = record { is = least.value; small = least_of_all_levels few least }

held_for_more : {m capacity : ℕ} {costs keys : List ℕ} → KnapsackHeld m capacity costs keys → KnapsackHeld (suc m) capacity costs keys
held_for_more held =
    record {
      costs_to_capacity = held.costs_to_capacity;
      keys_to_capacity = held.keys_to_capacity;
      small = λ w le. small_for_more (held.small w le);
    }

module _ {branch : Branch} {load cost : List ℕ} {points : List Choice} {starts knapsack_costs knapsack_keys costs keys : List ℕ}
    (fits : BranchFits branch load cost points starts knapsack_costs knapsack_keys costs keys) where
  bit_above_0 : 0 < branch.bit
  bit_above_0 = omega (arith, fits.index_below)

  module _ (some : branch.ahead ≡ branch.listed → ⊥) where
    one_ahead : branch.ahead ≡ suc (branch.ahead - 1)
    one_ahead = omega (arith, fits.listed_ahead)

    bit_doubled : branch.bit * 2 ≡ 2 ^ suc branch.places
    bit_doubled = omega (arith, fits.bit_is, pow-suc 2 branch.places)

    digit_moved : branch.digit * key_base ≡ key_base ^ suc branch.places
    digit_moved = ap (λ (d : ℕ). d * key_base) fits.digit_is ∙ sym (pow-suc key_base branch.places)

    pub next_fits : NextFits branch
    next_fits =
        let limit = fits.items_limited in
        let some_digit : 0 < 2 = omega arith in
        let most : 2 ^ suc branch.places ≤ 2 ^ most_items = pow-le-pow_right some_digit {j = most_items} (omega arith) in
        record {
          some_ahead = omega arith;
          places_fit = omega arith;
          bit_fits = omega (arith, bit_doubled);
          digit_fits = omega (arith, digit_moved, keys_fit {n = suc branch.places} (omega arith));
          index_fits = omega (arith, bit_doubled, fits.index_below);
        }

    pub item_before : ItemBefore (next_item branch) load cost knapsack_costs knapsack_keys
    item_before =
        record {
          affordable = rw one_ahead at fits.affordable;
          places_limited = omega (arith, fits.items_limited);
          digit_is = fits.digit_is;
          knapsack_held = fits.knapsack_held;
        }

    settled_fits : {index : ℕ} {knapsack_costs₁ knapsack_keys₁ costs₁ keys₁ : List ℕ} → index < branch.bit * 2 →
        KnapsackHeld (suc branch.places) branch.core.capacity knapsack_costs₁ knapsack_keys₁ →
        Falling branch.core.capacity (knapsack_of knapsack_costs₁ knapsack_keys₁) →
        length costs₁ ≡ length costs → length keys₁ ≡ length keys →
        BranchFits (settled branch index) load cost points starts knapsack_costs₁ knapsack_keys₁ costs₁ keys₁
    settled_fits below held falls same_costs same_keys =
        let sums : branch.ahead - 1 + suc branch.places ≡ branch.ahead + branch.places = omega arith in
        record {
          items_limited = omega (arith, fits.items_limited);
          affordable = affordable_without_last (rw one_ahead at fits.affordable);
          bit_is = bit_doubled;
          digit_is = digit_moved;
          index_below = below;
          knapsack_held = held;
          knapsack_falls = falls;
          listed_ahead = omega (arith, fits.listed_ahead);
          front_listed = rw sums fits.front_listed;
          costs_for_all = rw (sums, same_costs) fits.costs_for_all;
          keys_for_all = rw (sums, same_keys) fits.keys_for_all;
        }

    pub without_fits : BranchFits (without_next branch) load cost points starts knapsack_costs knapsack_keys costs keys
    without_fits = settled_fits (omega (arith, fits.index_below)) (held_for_more fits.knapsack_held) fits.knapsack_falls refl refl

    with_knapsack : {more_costs more_keys : List ℕ} →
        KnapsackWithItem (next_item branch) load cost knapsack_costs knapsack_keys branch.core.levels
        more_costs more_keys → (u : ℕ) → u ≤ branch.core.capacity →
        knapsack_of more_costs more_keys u
        ≡ with_item branch.core.levels (offer_at load cost (branch.ahead - 1)) branch.places (knapsack_of knapsack_costs knapsack_keys) u
    unfolding knapsack_of
    with_knapsack more u le = (least_holds fits.affordable.levels_limited (more.least u le)).is

    pub with_fits : {more_costs more_keys costs₁ keys₁ : List ℕ} → length more_costs ≡ suc most_capacity →
        length more_keys ≡ suc most_capacity →
        KnapsackWithItem (next_item branch) load cost knapsack_costs knapsack_keys branch.core.levels
        more_costs more_keys →
        length costs₁ ≡ length costs → length keys₁ ≡ length keys →
        BranchFits (with_next branch) load cost points starts more_costs more_keys costs₁ keys₁
    with_fits full_costs full_keys more same_costs same_keys =
        settled_fits (omega (arith, fits.index_below))
        record {
          costs_to_capacity = omega (arith, full_costs, fits.affordable.capacity_limited);
          keys_to_capacity = omega (arith, full_keys, fits.affordable.capacity_limited);
          small = λ w le. least_of_all_levels fits.affordable.levels_limited (more.least w le);
        }
        (falling_same (λ u le. sym (with_knapsack more u le))
        (falling_with_item (offer_at load cost (branch.ahead - 1)) branch.places fits.knapsack_falls branch.core.levels))
        same_costs same_keys

    pub both_filled : {costs₁ keys₁ more_costs more_keys costs₂ keys₂ : List ℕ} →
        BranchFilled (without_next branch) load cost knapsack_costs knapsack_keys costs keys costs₁ keys₁ →
        KnapsackWithItem (next_item branch) load cost knapsack_costs knapsack_keys branch.core.levels
        more_costs more_keys →
        BranchFilled (with_next branch) load cost more_costs more_keys costs₁ keys₁ costs₂ keys₂ →
        BranchFilled branch load cost knapsack_costs knapsack_keys costs keys costs₂ keys₂
    both_filled without more with =
        rw one_ahead
        (filled_both branch.core.levels branch.core.capacity (offer_at load cost) bit_above_0 without
        (filled_same branch.core.levels branch.core.capacity (offer_at load cost) (with_knapsack more) with))
