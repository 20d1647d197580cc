-- One set more is listed, and the lists before it stay.
use Rattle.std.specs.Prelude.{ℕ, zero, suc, ◌+◌, ◌-◌, ◌^◌, ◌≤◌, ◌<◌, ◌≡◌, ◌⊎◌, List, length, get_or, set}
use Rattle.std.proofs.Common.{inl, inr, le_refl, eq-or-lt_of_le, pow-suc, add-zero, arith, length-set, pow_pos, get_or-set_same, get_or-set_other}
use Rattle.laws.specs.Below.{below_suc}
use Rattle.choice_lists.specs.Listed.{Listed, SetsListed}
use Rattle.choice_lists.specs.ListedSets.{Enough, SetFits, SetAdded, SetsFit, SetsGoing, NextSetFits}
use Rattle.choice_lists.specs.ListedSetLaws.{listed_absent, listed_present}
use Rattle.knapsack.specs.Offered.{offer_at}
use Rattle.choice_lists.specs.PointLaws.{listed_older}
use Rattle.knapsack.specs.KnapsackSteps.{knapsack_before}
use Rattle.choice_lists.specs.Spread.{ItemFits}
use Rattle.choice_lists.specs.SpreadItems.{small_alone}
use Rattle.choice_lists.specs.Sweep.{Older}
use Rattle.knapsack.specs.declared.relaxing.Core.{Core}
use Rattle.knapsack.specs.declared.relaxing.Front.{Front}
use Rattle.knapsack.specs.declared.relaxing.Choice.{Choice}

rises : (f : ℕ → ℕ) (upto j : ℕ) → ((k : ℕ) → k < upto → f k ≤ f (suc k)) → j ≤ upto → f j ≤ f upto
rises f zero j each le = let is : j ≡ 0 = omega arith in rw is (le_refl (f 0))
rises f (suc upto) j each le = go (eq-or-lt_of_le le) (λ less. rises f upto j (λ k below. each k (omega arith)) less)
  where
    go : (j ≡ suc upto) ⊎ (j < suc upto) → (j ≤ upto → f j ≤ f upto) → f j ≤ f (suc upto)
    go (inl is) ih = rw is (le_refl (f (suc upto)))
    go (inr less) ih = omega (arith, ih (omega arith), each upto (omega arith))

module _ {core : Core} {load cost : List ℕ} {first n places upto : ℕ} {points : List Choice} {starts : List ℕ}
    (sets : SetsListed core load cost first n places upto points starts) where
  -- lists stand one after the other
  pub ends_before : (j : ℕ) → j ≤ upto → get_or starts j 0 ≤ get_or starts upto 0
  ends_before j le = rises (λ i. get_or starts i 0) upto j (λ k below. (sets.each k below).ordered) le

  pub last_there : 0 < upto → get_or starts upto 0 ≤ length points
  last_there some =
      let is : suc (upto - 1) ≡ upto = omega arith in
      rw is at (sets.each (upto - 1) (omega arith)).there

  -- where another list is put behind them they stay
  pub sets_stay : (end : ℕ) {used at : ℕ} {points' : List Choice} → Older used points points' → get_or starts upto 0 ≤ used → upto < at →
      SetsListed core load cost first n places upto points' (set starts at end)
  sets_stay end {used} {at} older behind above =
      record {
        starts_there = omega (arith, length-set starts at end, sets.starts_there);
        each = λ k below.
            rw (get_or-set_other starts at k end 0 (λ same. absurd (omega arith)), get_or-set_other starts at (suc k) end 0 (λ same. absurd (omega arith)))
            (listed_older older (omega (arith, ends_before (suc k) below)) (sets.each k below));
      }

  pub sets_more : suc upto < length starts →
      Listed core.capacity n places (knapsack_before core.levels (λ i. offer_at load cost (first + i)) n places upto) points
      (get_or starts upto 0) (get_or starts (suc upto) 0) →
      SetsListed core load cost first n places (suc upto) points starts
  sets_more there list =
      record {
        starts_there = there;
        each = below_suc
            (λ k.
            Listed core.capacity n places (knapsack_before core.levels (λ i. offer_at load cost (first + i)) n places k) points
            (get_or starts k 0) (get_or starts (suc k) 0))
            upto sets.each list;
      }

module _ {front : Front} {count : ℕ} {load cost : List ℕ} where
  pub sets_start : {points : List Choice} {starts : List ℕ} → SetsFit front count load cost points starts →
      SetsGoing front count load cost 0 points starts
  sets_start fits =
      record {
        behind = fits.behind;
        sofar = rw add-zero
            record {
              starts_there = fits.behind.starts_there;
              each = λ k below. listed_absent load cost front.core front.item k below (fits.behind.each k below);
            };
      }

  module _ {k : ℕ} {points : List Choice} {starts : List ℕ} (fits : NextSetFits front count k load cost points starts) where
    sum : count + (front.places - count) ≡ front.places
    sum = omega (arith, fits.room.count_behind)

    place_there : suc (2 ^ count + k) < length starts
    place_there = omega (arith, fits.there, fits.room.starts_long, pow-suc 2 count)

    pub used_there : get_or starts (2 ^ count + k) 0 ≤ length points
    used_there = last_there fits.going.sofar (omega (arith, pow_pos count))

    pub list_fits : ItemFits front (get_or starts k 0) (get_or starts (suc k) 0) load cost points
    list_fits =
        let list = fits.going.behind.each k fits.there in
        record {
          affordable = fits.room.affordable;
          places_limited = fits.room.places_limited;
          digit_is = fits.room.digit_is;
          ordered = list.ordered;
          there = list.there;
          small = λ p after below. rw sum at (small_alone (list.small p after below));
        }

    pub set_fits : {most : ℕ} → Enough front.core (get_or starts k 0) (get_or starts (suc k) 0) most →
        most ≤ length points - get_or starts (2 ^ count + k) 0 →
        SetFits front (get_or starts k 0) (get_or starts (suc k) 0) (get_or starts (2 ^ count + k) 0) load cost points
    set_fits enough free =
        record {
          item = list_fits;
          behind = ends_before fits.going.sofar (suc k) (omega (arith, pow_pos count));
          there = used_there;
          room =
              record {
                short = λ few. omega (arith, enough.short few, free);
                long = λ many. omega (arith, enough.long many, free);
              };
        }

    pub sets_step : {points' : List Choice} {end : ℕ} →
        SetAdded front (get_or starts k 0) (get_or starts (suc k) 0) (get_or starts (2 ^ count + k) 0) load cost points points' end →
        SetsGoing front count load cost (suc k) points' (set starts (suc (2 ^ count + k)) end)
    sets_step {points'} {end} added =
        let going = fits.going in
        record {
          behind = sets_stay going.behind end added.older (ends_before going.sofar (2 ^ count) (omega arith)) (omega arith);
          sofar =
              let more : 2 ^ count + suc k ≡ suc (2 ^ count + k) = omega arith in
              rw more
              (sets_more (sets_stay going.sofar end added.older (le_refl _) (omega arith))
              (omega (arith, place_there, length-set starts (suc (2 ^ count + k)) end))
              (rw (
                get_or-set_other starts (suc (2 ^ count + k)) (2 ^ count + k) end 0 (λ same. absurd (omega arith)),
                get_or-set_same starts (suc (2 ^ count + k)) end 0 place_there,
              )
              (listed_present load cost front k sum fits.there (going.behind.each k fits.there) added)));
        }
