-- The cheapest level of an item, level by level, and what all items cost at least, item by item.
use Rattle.std.specs.Prelude.{◌≡◌, ℕ, ◌+◌, ◌*◌, ◌<◌, ◌≤◌, List, replicate, slice_index, slice_set, refl}
use Rattle.std.proofs.Common.{◌∙◌, le_trans, mul-le-mul, arith, length-set, get_or-set_same, get_or-set_other}
use Rattle.laws.specs.Below.{below_suc}
use Rattle.ranges.specs.Limits.{most_period}
use Rattle.assignment.specs.Limits.{most_items, most_levels}
use Rattle.lagrangian.specs.Lagrangians.{most_price, most_priced, WithinBudget, Relaxes}
use Rattle.lagrangian.specs.TimedItems.{TimedReady}
use Rattle.lagrangian.specs.PatternLaws.{no_entry}
use Rattle.lagrangian.specs.PriceLaws.{set_at_most}
use Rattle.lagrangian.specs.PricedLevels.{priced_at, Cheapest, LeastOfEach}
use Rattle.lagrangian.specs.TimedCores.{timing_at}
use Rattle.lagrangian.specs.declared.Lagrangian.{Lagrangian}
use Rattle.lagrangian.specs.declared.Timed.{Timed}
use Rattle.lagrangian.specs.declared.relaxation.PricedLevel.{PricedLevel}

abbrev pub no_level_yet : PricedLevel
no_level_yet = record { level = 0; cost = most_priced }

abbrev pub level_at : (level cost : ℕ) → PricedLevel
level_at level cost = record { level = level; cost = cost }

-- what the ticks of a job within its window come to, at the cost of a level
pub priced_fits : {timed : Timed} {timings cost : List ℕ} → TimedReady timed timings cost → (i l price : ℕ) → i < timed.items → l < timed.levels →
    price ≤ most_price → (timing_at timings i).ticks l ≤ (timing_at timings i).window →
    (price * (timing_at timings i).ticks l ≤ most_price * most_period) × (priced_at timings cost i price l ≤ most_priced)
priced_fits ready i l price is_item is_level low within =
    let its = ready.timed_items.item i is_item in
    let ticks = mul-le-mul low (le_trans within (le_trans its.window_within_period its.period_at_most)) in
    (ticks, omega (arith, ticks, ready.cheap i l is_item is_level within))

module _ {i price : ℕ} {timings cost : List ℕ} where
  pub before_any_level : Cheapest i price timings cost 0 no_level_yet
  before_any_level = record { low = omega arith; is_level = omega arith; least = λ m l within. absurd (omega arith) }

  module _ {l : ℕ} {best : PricedLevel} (so_far : Cheapest i price timings cost l best) where
    -- where a job has its ticks within its window at the next level, it is no cheaper
    still_at_most : ((timing_at timings i).ticks l ≤ (timing_at timings i).window → best.cost ≤ priced_at timings cost i price l) →
        Cheapest i price timings cost (l + 1) best
    still_at_most here =
        record {
          low = so_far.low;
          is_level = so_far.is_level;
          least = λ m below. below_suc (λ m. (timing_at timings i).ticks m ≤ (timing_at timings i).window → best.cost ≤ priced_at timings cost i price m) l
              so_far.least here m (omega arith);
        }

    pub skipped : (timing_at timings i).window < (timing_at timings i).ticks l → Cheapest i price timings cost (l + 1) best
    skipped long = still_at_most (λ within. absurd (omega arith))

    pub still_cheapest : best.cost ≤ priced_at timings cost i price l → Cheapest i price timings cost (l + 1) best
    still_cheapest less = still_at_most (λ within. less)

    pub now_cheapest : (its : ℕ) → l < most_levels → its ≡ priced_at timings cost i price l → its ≤ best.cost →
        Cheapest i price timings cost (l + 1) (level_at l its)
    now_cheapest its is_level is less =
        record {
          low = le_trans less so_far.low;
          is_level = is_level;
          least = λ m below. below_suc (λ m. (timing_at timings i).ticks m ≤ (timing_at timings i).window → its ≤ priced_at timings cost i price m) l
              (λ k n within. le_trans less (so_far.least k n within)) (λ within. omega (arith, is)) m (omega arith);
        }

module _ {levels : ℕ} {timings cost prices : List ℕ} where
  pub no_item_yet : LeastOfEach levels timings cost prices 0 (replicate most_items 0)
  no_item_yet =
      record { places = refl; low = λ j. rw (no_entry most_items j) (omega arith); at_most = λ j l below. absurd (omega arith) }

  pub least_of_one_more : {i : ℕ} {least : List ℕ} {best : PricedLevel} → LeastOfEach levels timings cost prices i least → i < most_items →
      Cheapest i (slice_index prices i) timings cost levels best → LeastOfEach levels timings cost prices (i + 1) (slice_set least i best.cost)
  least_of_one_more {i} {least} {best} so_far room its =
      record {
        places = length-set least i best.cost ∙ so_far.places;
        low = set_at_most least i best.cost most_priced its.low so_far.low;
        at_most = λ j l below.
            below_suc (λ j. l < levels → (timing_at timings j).ticks l ≤ (timing_at timings j).window →
            slice_index (slice_set least i best.cost) j ≤ priced_at timings cost j (slice_index prices j) l) i
            (λ k m is_level within. rw (get_or-set_other least i k best.cost 0 (λ same. omega arith)) (so_far.at_most k l m is_level within))
            (λ is_level within. rw (get_or-set_same least i best.cost 0 (omega (arith, so_far.places))) (its.least l is_level within)) j (omega arith);
      }

pub relaxes : {timed : Timed} {timings cost : List ℕ} {relaxed : Lagrangian} → WithinBudget timed timings relaxed.prices relaxed.budget →
    {i : ℕ} → timed.items ≤ i → LeastOfEach timed.levels timings cost relaxed.prices i relaxed.least → Relaxes timed timings cost relaxed
relaxes budgeted all each =
    record { budgeted = budgeted; places = each.places; low = each.low; least = λ j l below. each.at_most j l (le_trans below all) }
