-- A whole knapsack relaxed by every level of an item.
use Rattle.std.specs.Prelude.{ℕ, suc, ◌+◌, ◌*◌, ◌^◌, ◌≤◌, ◌<◌, ◌≡◌, List, length, get_or, replicate}
use Rattle.std.proofs.Common.{pow-suc, mul-le-mul_right, arith}
use Rattle.std.proofs.lemmas.List.{length-replicate, get_or-replicate}
use Rattle.assignment.specs.KeyLaws.{keys_fit}
use Rattle.assignment.specs.Limits.{most_items, most_levels, most_capacity}
use Rattle.knapsack.specs.Offered.{entry_of, offer_at, Affordable}
use Rattle.knapsack.specs.RelaxedKnapsacks.{KnapsackSumsFit}
use Rattle.assignment.specs.Keys.{key_base}
use Rattle.knapsack.specs.KnapsackWords.{KnapsackHeld, knapsack_of, Relaxed, LeastAt, least_of_no_level, least_of_one_more}
use Rattle.assignment.specs.Words.{no_cost}
use Rattle.knapsack.specs.declared.relaxing.Choice.{Choice}
use Rattle.knapsack.specs.declared.relaxing.Front.{Front}

abbrev pub choice_of : List ℕ → List ℕ → Front → ℕ → Choice
choice_of load cost front level =
    record { load = entry_of load front.item level; cost = entry_of cost front.item level; key = suc level * front.digit }

pub record ChoiceFits (load cost : List ℕ) (front : Front) (level : ℕ) : Type 0 where
  pub level_limited : level < most_levels
  pub load_there : suc front.item * most_levels ≤ length load
  pub cost_there : suc front.item * most_levels ≤ length cost
  pub key_fits : most_levels * front.digit < 2 ^ 64

-- the item is within the limits, and the knapsack is one of the `places` items behind it
pub record ItemBefore (front : Front) (load cost costs keys : List ℕ) : Type 0 where
  pub affordable : Affordable (suc front.item) front.core.levels front.core.capacity load cost
  pub places_limited : front.places < most_items
  pub digit_is : front.digit ≡ key_base ^ front.places
  pub knapsack_held : KnapsackHeld front.places front.core.capacity costs keys

-- every entry up to the capacity is (c, k)
pub record FlatKnapsack (c k capacity : ℕ) (costs keys : List ℕ) : Type 0 where
  pub costs_to_capacity : capacity < length costs
  pub keys_to_capacity : capacity < length keys
  pub each_cost : (w : ℕ) → w ≤ capacity → get_or costs w 0 ≡ c
  pub each_key : (w : ℕ) → w ≤ capacity → get_or keys w 0 ≡ k

pub flat_knapsack : (c k capacity : ℕ) → capacity ≤ most_capacity →
    FlatKnapsack c k capacity (replicate (suc most_capacity) c) (replicate (suc most_capacity) k)
flat_knapsack c k capacity le =
    record {
      costs_to_capacity = omega (arith, length-replicate (suc most_capacity) c);
      keys_to_capacity = omega (arith, length-replicate (suc most_capacity) k);
      each_cost = λ w under. get_or-replicate (suc most_capacity) w c 0 (omega arith);
      each_key = λ w under. get_or-replicate (suc most_capacity) w k 0 (omega arith);
    }

-- each entry is the least of the item's first l levels before the knapsack
pub record KnapsackWithItem (front : Front) (load cost knapsack_costs knapsack_keys : List ℕ) (l : ℕ) (costs keys : List ℕ) :
    Type 0 where
  pub least : (w : ℕ) → w ≤ front.core.capacity →
      LeastAt (offer_at load cost front.item) front.places l (knapsack_of knapsack_costs knapsack_keys) w (get_or costs w 0) (get_or keys w 0)

pub knapsack_of_no_level : {front : Front} {load cost knapsack_costs knapsack_keys costs keys : List ℕ} →
    FlatKnapsack no_cost 0 front.core.capacity costs keys → KnapsackWithItem front load cost knapsack_costs knapsack_keys 0 costs keys
knapsack_of_no_level none =
    record { least = λ w le. rw (none.each_cost w le, none.each_key w le) (least_of_no_level _ _ _ w) }

-- eight times an item's weight and once more
pub digit_fits : {places digit : ℕ} → places < most_items → digit ≡ key_base ^ places → most_levels * digit + digit < 2 ^ 64
unfolding key_base
digit_fits {places} few is =
    let fits = keys_fit {n = suc places} few in
    omega (arith, pow-suc key_base places)

pub level_fits : {front : Front} {levels capacity l : ℕ} {load cost : List ℕ} →
    Affordable (suc front.item) levels capacity load cost → front.places < most_items →
    front.digit ≡ key_base ^ front.places → l < levels → ChoiceFits load cost front l
level_fits affordable few is under =
    record {
      level_limited = omega (arith, affordable.levels_limited);
      load_there = affordable.loads_for_all;
      cost_there = affordable.costs_for_all;
      key_fits = omega (arith, digit_fits few is);
    }

module _ {front : Front} {load cost knapsack_costs knapsack_keys : List ℕ}
    (before : ItemBefore front load cost knapsack_costs knapsack_keys) {l : ℕ} (under : l < front.core.levels) where
  pub choice_fits : ChoiceFits load cost front l
  choice_fits = level_fits before.affordable before.places_limited before.digit_is under

  module _ {choice : Choice} (chosen : choice ≡ choice_of load cost front l) where
    pub knapsack_sums_fit : KnapsackSumsFit choice.load choice.cost choice.key front.core.capacity knapsack_costs knapsack_keys
    knapsack_sums_fit =
        let held = before.knapsack_held in
        let few = before.affordable.levels_limited in
        rw chosen
        record {
          costs_to_capacity = held.costs_to_capacity;
          keys_to_capacity = held.keys_to_capacity;
          cost_fits = λ u le.
              let cheap = before.affordable.cheap front.item (omega arith) l under (omega arith) in
              omega (arith, (held.small u (omega arith)).at_most_none);
          key_fits = λ u le.
              let most : suc l * front.digit ≤ most_levels * front.digit = mul-le-mul_right front.digit (omega arith) in
              omega (arith, digit_fits before.places_limited before.digit_is, before.digit_is, (held.small u (omega arith)).digits);
        }

    -- (d, j) is what (c, k) becomes by the choice
    pub entry_of_one_more : {w c k d j : ℕ} → w ≤ front.core.capacity →
        LeastAt (offer_at load cost front.item) front.places l (knapsack_of knapsack_costs knapsack_keys) w c k →
        Relaxed choice.load choice.cost choice.key knapsack_costs knapsack_keys w c k d j →
        LeastAt (offer_at load cost front.item) front.places (suc l) (knapsack_of knapsack_costs knapsack_keys) w d j
    unfolding offer_at
    entry_of_one_more le sofar relaxed =
        least_of_one_more (omega (arith, before.places_limited))
        (λ fits. before.affordable.cheap front.item (omega arith) l under (omega arith))
        (λ u under_w. before.knapsack_held.small u (omega arith))
        sofar
        (rw (chosen, before.digit_is) at relaxed)

    pub knapsack_of_one_more : {costs₀ keys₀ costs keys : List ℕ} →
        KnapsackWithItem front load cost knapsack_costs knapsack_keys l costs₀ keys₀ →
        ((w : ℕ) → w ≤ front.core.capacity →
        Relaxed choice.load choice.cost choice.key knapsack_costs knapsack_keys w
        (get_or costs₀ w 0) (get_or keys₀ w 0) (get_or costs w 0) (get_or keys w 0)) →
        KnapsackWithItem front load cost knapsack_costs knapsack_keys (suc l) costs keys
    knapsack_of_one_more sofar relaxed = record { least = λ w le. entry_of_one_more le (sofar.least w le) (relaxed w le) }
