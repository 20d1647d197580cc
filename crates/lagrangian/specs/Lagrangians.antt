-- Lagrangian relaxation of one core. Ticks of a job have prices, so that what an admitted pattern's ticks come to is within a budget.
-- An item at its least cost, its ticks at their price included, is then a bound: no admitted pattern costs less than the sum of these
-- for its items, less the budget.
use Rattle.std.specs.Prelude.{◌≡◌, ℕ, suc, ◌+◌, ◌*◌, ◌<◌, ◌≤◌, Bool, true, false, List, [], ◌∷◌, length, slice_index}
use Rattle.laws.specs.Sums.{sum}
use Rattle.assignment.specs.Limits.{most_items}
use Rattle.knapsack.specs.Offered.{entry_of}
use Rattle.lagrangian.specs.TimedItems.{timed_core}
use Rattle.lagrangian.specs.TimedCores.{entry_ticks, timing_at, timing_in, timings_of}
use Rattle.lagrangian.specs.declared.Lagrangian.{Lagrangian}
use Rattle.lagrangian.specs.declared.Timed.{Timed}

-- within these limits all sums fit 64 bits: 2^44, 2^58 and 2^57
abbrev pub most_price : ℕ
most_price = 17592186044416

abbrev pub most_budget : ℕ
most_budget = 288230376151711744

abbrev pub most_priced : ℕ
most_priced = 144115188075855872

-- what the ticks of a job of each of the front's items come to
unfoldable pub price_of : (timed : Timed) (timings prices q : List ℕ) → ℕ
price_of timed timings prices q =
    sum (λ i. slice_index prices i * entry_ticks (timing_in (timings_of timings timed.items) i) (slice_index q i)) (length q)

-- what items are priced at least, from item `from` on, of those that are flagged
unfoldable pub least_priced : (least : List ℕ) (from : ℕ) → List Bool → ℕ
least_priced least from [] = 0
least_priced least from (false ∷ T) = least_priced least (suc from) T
least_priced least from (true ∷ T) = slice_index least from + least_priced least (suc from) T

pub record WithinBudget (timed : Timed) (timings prices : List ℕ) (budget : ℕ) : Type 0 where
  pub within : (cost pattern : List ℕ) → length pattern ≡ timed.items → (timed_core timed timings cost).admits pattern ≡ true →
      price_of timed timings prices pattern ≤ budget
  pub places : length prices ≡ most_items
  pub low_prices : (i : ℕ) → slice_index prices i ≤ most_price
  pub low_budget : budget ≤ most_budget

pub record Relaxes (timed : Timed) (timings cost : List ℕ) (relaxed : Lagrangian) : Type 0 where
  pub budgeted : WithinBudget timed timings relaxed.prices relaxed.budget
  pub places : length relaxed.least ≡ most_items
  pub low : (i : ℕ) → slice_index relaxed.least i ≤ most_priced
  pub least : (i l : ℕ) → i < timed.items → l < timed.levels → (timing_at timings i).ticks l ≤ (timing_at timings i).window →
      slice_index relaxed.least i ≤ entry_of cost i l + slice_index relaxed.prices i * (timing_at timings i).ticks l
