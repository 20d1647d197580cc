-- Why prices that are raised by a weight for each job due by a tick stay within a budget that is raised by the weight for each tick up
-- to it: by no tick of the span is more due at an admitted pattern than there are ticks.
use Rattle.std.specs.Prelude.{◌≡◌, ℕ, zero, suc, ◌+◌, ◌*◌, ◌<◌, ◌≤◌, true, List, [], ◌∷◌, length, replicate, slice_index, slice_index_or, slice_set}
use Rattle.std.proofs.Math.Path.{refl, ap}
use Rattle.std.proofs.Common.{sym, ◌∙◌, mul-le-mul, mul_comm, arith, length-set, get_or-set_same, get_or-set_other}
use Rattle.std.proofs.Math.Nat.{mul-le-mul_left, mul-le-mul_right, mul_assoc, add-mul}
use Rattle.laws.specs.Below.{below_suc}
use Rattle.laws.specs.Sums.{sum}
use Rattle.laws.specs.SumLaws.{sum_add, sum_mono, sum_scaled, sum_zero}
use Rattle.ranges.specs.Limits.{most_span}
use Rattle.dispatch.specs.Rows.{CoreTasks}
use Rattle.edf.specs.Demand.{demand_at, jobs_due, meets_demand, ticks_due}
use Rattle.edf.specs.DemandLaws.{meets_demand_within}
use Rattle.edf.specs.JobsDueLaws.{jobs_due-at_most}
use Rattle.assignment.specs.Limits.{most_items}
use Rattle.lagrangian.specs.AdmittedLaws.{counted, pattern_well_formed}
use Rattle.lagrangian.specs.Lagrangians.{most_price, most_budget, price_of, WithinBudget}
use Rattle.lagrangian.specs.TimedItems.{TimedItems}
use Rattle.lagrangian.specs.PatternLaws.{no_entry, timing_of_lem}
use Rattle.lagrangian.specs.PriceColumns.{most_weight, jobs_of, JobsBy, LowPrices, Raised}
use Rattle.lagrangian.specs.TimedCores.{entry_ticks, timing_at, timing_in, timings_of, pattern_tasks}
use Rattle.lagrangian.specs.declared.Timed.{Timed}

abbrev pub no_prices : List ℕ
no_prices = replicate most_items 0

pub nothing_priced : (timed : Timed) (timings : List ℕ) → WithinBudget timed timings no_prices 0
unfolding price_of
nothing_priced timed timings =
    record {
      within = λ cost pattern of_items met.
          let its : ℕ → ℕ = λ i. slice_index no_prices i * entry_ticks (timing_in (timings_of timings timed.items) i) (slice_index pattern i) in
          let none = sum_zero its (length pattern) (λ i l. rw (no_entry most_items i) (omega arith)) in omega (arith, none);
      places = refl;
      low_prices = λ i. rw (no_entry most_items i) (omega arith);
      low_budget = omega arith;
    }

module _ {timed : Timed} {timings : List ℕ} (ready : TimedItems timed timings) where
  -- no more jobs are due by a tick than there are ticks up to it
  pub jobs_at_most : (i x : ℕ) → i < timed.items → jobs_of (timing_at timings i) x ≤ x
  unfolding jobs_due pattern_tasks
  jobs_at_most i x l =
      rw (timing_of_lem timings timed.items i l) at
      (jobs_due-at_most (pattern_tasks (timings_of timings timed.items) []) (pattern_well_formed ready []) i (rw (counted ready) l) x)

  module _ {x weight : ℕ} {jobs prices raised : List ℕ} {budget : ℕ} (within : x ≤ timed.span) (are_jobs : JobsBy x timings timed.items jobs)
      (raises : Raised weight jobs prices timed.items raised) (before : WithinBudget timed timings prices budget) where
    module _ (pattern : List ℕ) (of_items : length pattern ≡ timed.items) where
      abbrev core : CoreTasks
      core = pattern_tasks (timings_of timings timed.items) pattern

      abbrev ticks_of : ℕ → ℕ
      ticks_of i = entry_ticks (timing_in (timings_of timings timed.items) i) (slice_index pattern i)

      abbrev old : ℕ → ℕ
      old i = slice_index prices i * ticks_of i

      abbrev added : ℕ → ℕ
      added i = weight * ticks_due core x i

      its_jobs : (i : ℕ) → i < timed.items → slice_index jobs i ≡ jobs_due core i x
      unfolding jobs_due pattern_tasks
      its_jobs i l = are_jobs.at i l ∙ rw (timing_of_lem timings timed.items i l) refl

      one_raised : (i : ℕ) → i < timed.items → slice_index raised i * ticks_of i ≤ old i + added i
      unfolding pattern_tasks
      one_raised i l =
          let t = ticks_of i in
          let j = slice_index_or jobs i 0 in
          let more = mul-le-mul_right t (raises.at_most i l) in
          let same : added i ≡ weight * (t * j) = ap (λ (k : ℕ). weight * (t * k)) (sym (its_jobs i l)) in
          omega (arith, more, same, add-mul (slice_index prices i) (weight * j) t, mul_assoc weight j t, ap (λ (k : ℕ). weight * k) (mul_comm j t))

      raised_within : meets_demand core timed.span ≡ true → price_of timed timings prices pattern ≤ budget →
          price_of timed timings raised pattern ≤ budget + weight * x
      unfolding price_of demand_at pattern_tasks
      raised_within met paid =
          let n = timed.items in
          let now_paid : sum old n ≤ budget = rw of_items at paid in
          let all : sum (ticks_due core x) (length (timings_of timings n)) ≡ sum (ticks_due core x) n = ap (sum (ticks_due core x)) (counted ready) in
          let due : sum (ticks_due core x) n ≤ x = omega (arith, all, (meets_demand_within core timed.span).0 met x within) in
          let each = sum_mono (λ i. slice_index raised i * ticks_of i) (λ i. old i + added i) n one_raised in
          rw of_items
          (omega (arith, each, sum_add old added n, sum_scaled weight (ticks_due core x) n, mul-le-mul_left weight due, now_paid))

    pub raised_within_budget : budget + weight * x ≤ most_budget → WithinBudget timed timings raised (budget + weight * x)
    raised_within_budget low =
        record {
          within = λ cost pattern of_items met. raised_within pattern of_items met (before.within cost pattern of_items met);
          places = raises.low.places;
          low_prices = raises.low.low;
          low_budget = low;
        }

-- an entry set to no more than the others may be
pub set_at_most : (xs : List ℕ) (i w most : ℕ) → w ≤ most → ((j : ℕ) → slice_index xs j ≤ most) → (j : ℕ) → slice_index (slice_set xs i w) j ≤ most
set_at_most [] i w most low all j = all j
set_at_most (x ∷ xs) zero w most low all zero = low
set_at_most (x ∷ xs) zero w most low all (suc j) = all (suc j)
set_at_most (x ∷ xs) (suc i) w most low all zero = all zero
set_at_most (x ∷ xs) (suc i) w most low all (suc j) = set_at_most xs i w most low (λ k. all (suc k)) j

module _ {x : ℕ} {timings : List ℕ} where
  pub no_jobs_yet : JobsBy x timings 0 (replicate most_items 0)
  no_jobs_yet =
      record {
        few = record { places = refl; few = λ j. rw (no_entry most_items j) (omega arith) };
        at = λ j l. absurd (omega arith);
      }

  pub jobs_of_one_more : {i : ℕ} {column : List ℕ} (jobs : ℕ) → JobsBy x timings i column → i < most_items →
      jobs ≡ jobs_of (timing_at timings i) x → jobs ≤ most_span → JobsBy x timings (i + 1) (slice_set column i jobs)
  jobs_of_one_more {i} {column} jobs so_far room is few =
      record {
        few =
            record {
              places = length-set column i jobs ∙ so_far.few.places;
              few = set_at_most column i jobs most_span few so_far.few.few;
            };
        at = λ j l.
            below_suc (λ j. slice_index (slice_set column i jobs) j ≡ jobs_of (timing_at timings j) x) i
            (λ k m. get_or-set_other column i k jobs 0 (λ same. omega arith) ∙ so_far.at k m)
            (get_or-set_same column i jobs 0 (omega (arith, so_far.few.places)) ∙ is) j (omega arith);
      }

module _ {weight : ℕ} {jobs prices : List ℕ} where
  pub none_raised_yet : LowPrices prices → Raised weight jobs prices 0 prices
  none_raised_yet low = record { low = low; at_most = λ j l. absurd (omega arith) }

  pub one_more_raised : {i : ℕ} {raised : List ℕ} (price : ℕ) → Raised weight jobs prices i raised → i < most_items →
      price ≤ slice_index prices i + weight * slice_index jobs i → price ≤ most_price → Raised weight jobs prices (i + 1) (slice_set raised i price)
  one_more_raised {i} {raised} price so_far room at_most low =
      record {
        low =
            record {
              places = length-set raised i price ∙ so_far.low.places;
              low = set_at_most raised i price most_price low so_far.low.low;
            };
        at_most = λ j l.
            below_suc (λ j. slice_index (slice_set raised i price) j ≤ slice_index prices j + weight * slice_index jobs j) i
            (λ k m. rw (get_or-set_other raised i k price 0 (λ same. omega arith)) (so_far.at_most k m))
            (rw (get_or-set_same raised i price 0 (omega (arith, so_far.low.places))) at_most) j (omega arith);
      }

-- what is added to a price fits
pub raise_fits : {weight jobs : ℕ} → weight ≤ most_weight → jobs ≤ most_span → weight * jobs ≤ most_weight * most_span
raise_fits low few = mul-le-mul low few
