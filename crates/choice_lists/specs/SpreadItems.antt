-- An item is spread level after level.
use Prim.Native.Nat.{ℕ, suc, ◌+◌, ◌*◌, ◌-◌, ◌^◌, ◌≤◌, ◌<◌}
use Rattle.std.specs.Prelude.{◌≡◌, List, replicate}
use Rattle.std.proofs.Math.Path.{sym, ap}
use Rattle.std.proofs.Common.{◌∙◌, add-zero, mul-le-mul_right}
use Rattle.std.proofs.Math.Nat.{pow-suc, pow-zero, one-le-pow}
use native.Mathlib.Omega.{arith}
use Rattle.std.proofs.lemmas.Bool.{lt-leb}
use Rattle.std.proofs.lemmas.List.{get_or-replicate}
use Rattle.assignment.specs.LeastLaws.{lesser_none, least_below-none}
use Rattle.choice_lists.specs.Listed.{before, least_listed, PointSmall}
use Rattle.assignment.specs.Limits.{most_levels, most_capacity, most_cost}
use Rattle.knapsack.specs.Offered.{entry_of, offer_at}
use Rattle.knapsack.specs.RelaxedItems.{choice_of, ChoiceFits, digit_fits, level_fits}
use Rattle.assignment.specs.Keys.{key_base}
use Rattle.knapsack.specs.Knapsacks.{at_level}
use Rattle.choice_lists.specs.Spread.{value_before, spread_at, least_spread, least_sums, Sound, absent, present, SumsSmall, LevelSpread, ItemFits, Cleared, ItemSpread}
use Rattle.choice_lists.specs.SpreadLaws.{none_before, least_sums-is}
use Rattle.assignment.specs.Values.{Value, none, pair, lesser, least_below}
use Rattle.assignment.specs.Words.{no_cost, words_none}
use Rattle.knapsack.specs.declared.relaxing.Choice.{Choice}
use Rattle.knapsack.specs.declared.relaxing.Front.{Front}
use Rattle.values.specs.declared.value.Worth.{Worth}

-- n items of which a list is, and `places` others, seen as items in front of none
pub small_alone : {capacity n places : ℕ} {point : Choice} → PointSmall capacity n places point →
    PointSmall capacity (n + places) 0 point
unfolding key_base
small_alone {n = n} {places} small =
    record {
      fits = small.fits;
      cheap = omega (arith, small.cheap);
      digits = rw (pow-zero, add-zero) (omega (arith, small.digits, one-le-pow places key_base (omega arith)));
    }

pub all_cleared : {capacity : ℕ} → capacity ≤ most_capacity → Cleared capacity (replicate (suc most_capacity) record { cost = no_cost; key = 0 })
all_cleared under =
    record {
      each = λ u below. get_or-replicate (suc most_capacity) u record { cost = no_cost; key = 0 } record { cost = 0; key = 0 } (omega arith);
    }

module _ {front : Front} {from to : ℕ} {load cost : List ℕ} {points : List Choice} where
  pub spread_no_level : {spread : List Worth} → Cleared front.core.capacity spread →
      ItemSpread front from to load cost points 0 spread
  unfolding least_spread least_below
  spread_no_level {spread} cleared =
      record {
        least = λ rest w under.
            least_below-none (suc front.core.capacity) _
            (λ u below. ap (λ (v : Value). value_before u v rest w) (empty u (omega arith)) ∙ none_before u rest w);
        sound = λ n places sum small u under. rw (empty u under) absent;
      }
    where
      empty : (u : ℕ) → u ≤ front.core.capacity → spread_at spread u ≡ none
      empty u under = rw (cleared.each u under) (words_none no_cost 0 (omega arith))

  module _ (fits : ItemFits front from to load cost points) {l : ℕ} (under : l < front.core.levels) where
    pub item_choice_fits : ChoiceFits load cost front l
    item_choice_fits = level_fits fits.affordable fits.places_limited fits.digit_is under

    most_key : suc l * front.digit ≤ most_levels * front.digit
    most_key = mul-le-mul_right front.digit (omega (arith, fits.affordable.levels_limited))

    module _ {choice : Choice} (chosen : choice ≡ choice_of load cost front l) where
      cheap : choice.load ≤ front.core.capacity → choice.cost ≤ most_cost
      cheap room =
          rw chosen
          (fits.affordable.cheap front.item (omega arith) l under (omega (arith, ap (λ (x : Choice). x.load) chosen)))

      pub sums_small : choice.load ≤ front.core.capacity → SumsSmall front.core.capacity choice from to points
      sums_small room =
          record {
            capacity_limited = fits.affordable.capacity_limited;
            ordered = fits.ordered;
            there = fits.there;
            choice_fits = room;
            point_fits = λ p after below. (fits.small p after below).fits;
            real = λ p after below. omega (arith, cheap room, (fits.small p after below).cheap, fits.places_limited);
            digits_fit = λ p after below.
                let digits = rw (pow-zero, add-zero) at (fits.small p after below).digits in
                omega (arith, digits, most_key, digit_fits fits.places_limited fits.digit_is, fits.digit_is, ap (λ (x : Choice). x.key) chosen);
          }

      pub sum_sound : {n places : ℕ} {point : Choice} → choice.load ≤ front.core.capacity → n + places ≡ front.places →
          PointSmall front.core.capacity n places point →
          Sound (suc n) places (pair (choice.cost + point.cost) (choice.key + point.key))
      unfolding key_base
      sum_sound {n} {places} {point} room sum small =
          let power = fits.digit_is ∙ ap (λ (m : ℕ). key_base ^ m) (sym sum) in
          let more : suc n + places ≡ suc (n + places) = omega arith in
          let larger = ap (λ (m : ℕ). key_base ^ m) more in
          present (choice.cost + point.cost) (choice.key + point.key) (omega (arith, cheap room, small.cheap))
          (omega (arith, small.digits, most_key, power, larger, pow-suc key_base (n + places), ap (λ (x : Choice). x.key) chosen))

      -- what the level comes to before a knapsack
      pub at_level_over : front.core.capacity < choice.load → (rest : ℕ → Value) {w : ℕ} → w ≤ front.core.capacity →
          at_level (offer_at load cost front.item) front.places rest w l ≡ none
      unfolding at_level offer_at
      at_level_over over rest {w} below =
          let above : w < entry_of load front.item l = omega (arith, ap (λ (x : Choice). x.load) chosen) in
          rw (lt-leb _ _ above)

      pub at_level_sums : (rest : ℕ → Value) (w : ℕ) →
          least_sums choice points from (to - from) rest w
          ≡ at_level (offer_at load cost front.item) front.places (least_listed points from (to - from) rest) w l
      unfolding before at_level offer_at
      at_level_sums rest w = least_sums-is choice points from (to - from) rest w ∙ level (least_listed points from (to - from) rest)
        where
          level : (knapsack : ℕ → Value) → before choice knapsack w ≡ at_level (offer_at load cost front.item) front.places knapsack w l
          level knapsack = rw (chosen, fits.digit_is)

      module _ {spread₀ : List Worth} (sofar : ItemSpread front from to load cost points l spread₀) where
        pub spread_no_room : front.core.capacity < choice.load → ItemSpread front from to load cost points (suc l) spread₀
        unfolding least_below
        spread_no_room over =
            record {
              least = λ rest w below.
                  sofar.least rest w below
                  ∙ sym (ap (lesser _) (at_level_over over (least_listed points from (to - from) rest) below) ∙ lesser_none _);
              sound = sofar.sound;
            }

        pub spread_one_level : {spread : List Worth} → choice.load ≤ front.core.capacity →
            LevelSpread front.core.capacity choice from to points spread₀ spread →
            ItemSpread front from to load cost points (suc l) spread
        unfolding least_below
        spread_one_level room level =
            record {
              least = λ rest w below.
                  level.least rest w below
                  ∙ ap (λ (v : Value). lesser v (least_sums choice points from (to - from) rest w)) (sofar.least rest w below)
                  ∙ ap (lesser _) (at_level_sums rest w);
              sound = λ n places sum small.
                  level.sound (suc n) places (sofar.sound n places sum small)
                  (λ p after below. sum_sound room sum (small p after below));
            }
