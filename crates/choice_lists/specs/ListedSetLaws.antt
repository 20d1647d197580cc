-- The sets with an item are listed one after the other.
use Rattle.std.specs.Prelude.{ℕ, suc, ◌+◌, ◌^◌, ◌≤◌, ◌<◌, ◌≡◌, true, false, List, length}
use Rattle.std.proofs.Common.{sym, ap, ◌∙◌, pow-suc, zero-add, add-zero, arith}
use Rattle.choice_lists.specs.Appended.{ItemRoom, ItemAppended}
use Rattle.knapsack.specs.FrontKnapsacks.{knapsack_before-first, knapsack_before-items}
use Rattle.choice_lists.specs.Listed.{part, PointSmall, Listed}
use Rattle.choice_lists.specs.ListedSets.{Short, SetFits, SetAdded}
use Rattle.knapsack.specs.Offered.{offer_at}
use Rattle.assignment.specs.Keys.{key_base}
use Rattle.knapsack.specs.KnapsackSteps.{with_item, knapsack_before, with_item-same}
use Rattle.choice_lists.specs.PointLaws.{part_small, part_listed}
use Rattle.choice_lists.specs.Spread.{ItemSpread}
use Rattle.choice_lists.specs.Sweep.{Swept}
use Rattle.assignment.specs.Values.{Value}
use Rattle.knapsack.specs.declared.relaxing.Choice.{Choice}
use Rattle.knapsack.specs.declared.relaxing.Core.{Core}
use Rattle.knapsack.specs.declared.relaxing.Front.{Front}
use Rattle.values.specs.declared.value.Worth.{Worth}

-- what is spread of it and swept is listed
pub set_added : {front : Front} {from to used end : ℕ} {load cost : List ℕ} {points₀ points : List Choice} {spread : List Worth} →
    to ≤ length points₀ →
    ItemSpread front 0 (length (part points₀ from to)) load cost (part points₀ from to) front.core.levels spread →
    Swept front.core.capacity used spread points₀ points end →
    SetAdded front from to used load cost points₀ points end
unfolding with_item
set_added {front} {from} {to} {load = load} {cost} {points₀} there item swept =
    record {
      older = swept.older;
      listed = λ n places sum small.
          let list = swept.listed (suc n) places (item.sound n places sum (part_small points₀ from to there small)) in
          record {
            ordered = list.ordered;
            there = list.there;
            least = λ rest falling w under.
                list.least rest falling w under
                ∙ item.least rest w under
                ∙ with_item-same front.core.levels (offer_at load cost front.item) front.places _ _ w
                (λ u below. part_listed points₀ from to there rest u);
            small = list.small;
          };
    }

-- and so is what is appended
pub set_appended : {front : Front} {from to used end : ℕ} {load cost : List ℕ} {points₀ points : List Choice} →
    ItemRoom front from to used load cost points₀ →
    ItemAppended front from to used load cost points₀ front.core.levels points end →
    SetAdded front from to used load cost points₀ points end
unfolding with_item
set_appended fits appended =
    record {
      older = appended.older;
      listed = λ n places sum small.
          record {
            ordered = appended.ordered;
            there = omega (arith, appended.few, appended.older.same_length, fits.room);
            least = λ rest falling w under. appended.least rest w under;
            small = appended.small n places sum small;
          };
    }

module _ {front : Front} {from to : ℕ} {load cost : List ℕ} {points : List Choice} where
  module _ {used : ℕ} (fits : SetFits front from to used load cost points) where
    pub room_short : Short front.core from to → ItemRoom front from to used load cost points
    room_short short =
        record {
          item = fits.item;
          behind = fits.behind;
          room = omega (arith, fits.room.short short, fits.there);
        }

module _ (levels first n places : ℕ) (load cost : List ℕ) {k : ℕ} (there : k < 2 ^ n) (rest : ℕ → Value) where
  -- the items behind the first, counted from the first and from the one after it
  behind_first :
      knapsack_before levels (λ i. offer_at load cost (first + suc i)) n places k rest
      ≡ knapsack_before levels (λ i. offer_at load cost (suc first + i)) n places k rest
  behind_first =
      knapsack_before-items levels _ _ n places k rest
      (λ i h. let same : first + suc i ≡ suc first + i = omega arith in rw same)

  first_absent :
      knapsack_before levels (λ i. offer_at load cost (first + i)) (suc n) places k rest
      ≡ knapsack_before levels (λ i. offer_at load cost (suc first + i)) n places k rest
  first_absent =
      (rw zero-add at (knapsack_before-first levels (λ i. offer_at load cost (first + i)) n places k rest false there)) ∙ behind_first

  first_present :
      knapsack_before levels (λ i. offer_at load cost (first + i)) (suc n) places (2 ^ n + k) rest
      ≡ with_item levels (offer_at load cost first) (n + places) (knapsack_before levels (λ i. offer_at load cost (suc first + i)) n places k rest)
  first_present =
      (rw add-zero at (knapsack_before-first levels (λ i. offer_at load cost (first + i)) n places k rest true there))
      ∙ ap (with_item levels (offer_at load cost first) (n + places)) behind_first

-- a choice of n items is one of n + 1 that leaves out the first
small_for_more : {capacity n places : ℕ} {point : Choice} → PointSmall capacity n places point → PointSmall capacity (suc n) places point
unfolding key_base
small_for_more {n = n} {places} small =
    let more : suc n + places ≡ suc (n + places) = omega arith in
    let larger = ap (λ (m : ℕ). key_base ^ m) more in
    record {
      fits = small.fits;
      cheap = omega (arith, small.cheap);
      digits = omega (arith, small.digits, larger, pow-suc key_base (n + places));
    }

module _ (load cost : List ℕ) where
  -- the knapsack of set number k of n items from `first` on
  abbrev set_knapsack : Core → (first n places k : ℕ) → (ℕ → Value) → ℕ → Value
  set_knapsack core first n places k = knapsack_before core.levels (λ i. offer_at load cost (first + i)) n places k

  pub listed_absent : (core : Core) (first k : ℕ) {n places from to : ℕ} {points : List Choice} → k < 2 ^ n →
      Listed core.capacity n places (set_knapsack core (suc first) n places k) points from to →
      Listed core.capacity (suc n) places (set_knapsack core first (suc n) places k) points from to
  listed_absent core first k {n} {places} there list =
      record {
        ordered = list.ordered;
        there = list.there;
        least = λ rest falling w under.
            list.least rest falling w under
            ∙ sym (ap (λ (f : ℕ → Value). f w) (first_absent core.levels first n places load cost there rest));
        small = λ p after below. small_for_more (list.small p after below);
      }

  pub listed_present : (front : Front) (k : ℕ) {n places from to used end : ℕ} {points₀ points : List Choice} → n + places ≡ front.places →
      k < 2 ^ n → Listed front.core.capacity n places (set_knapsack front.core (suc front.item) n places k) points₀ from to →
      SetAdded front from to used load cost points₀ points end →
      Listed front.core.capacity (suc n) places (set_knapsack front.core front.item (suc n) places (2 ^ n + k)) points used end
  listed_present front k {n} {places} {from} {to} {points₀ = points₀} sum there list added =
      let new = added.listed n places sum list.small in
      record {
        ordered = new.ordered;
        there = new.there;
        least = λ rest falling w under.
            new.least rest falling w under
            ∙ with_item-same front.core.levels (offer_at load cost front.item) front.places _ _ w
            (λ u below. list.least rest falling u (omega arith))
            ∙ ap
            (λ (m : ℕ). with_item front.core.levels (offer_at load cost front.item) m
            (set_knapsack front.core (suc front.item) n places k rest) w)
            (sym sum)
            ∙ sym (ap (λ (f : ℕ → Value). f w) (first_present front.core.levels front.item n places load cost there rest));
        small = new.small;
      }
