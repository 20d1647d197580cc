-- The levels of two items out of order exchanged: the same set at the same cost, and no more due by any tick. The key is smaller, or the
-- ticks weigh less.
use Prim.Native.Nat.{ℕ, zero, suc, ◌+◌, ◌-◌, ◌*◌, ◌^◌, ◌≤◌, ◌<◌}
use Rattle.std.specs.Prelude.{Bool, true, ◌⊎◌, ◌≢◌, ◌≡◌, length, set}
use mathlib.Core.List.{List, []}
use Rattle.std.proofs.Common.{inl, inr, sym, ◌∙◌, le_of_lt, le_trans, mul-pos, pow-suc, length-set, get_or-set_other}
use Rattle.std.proofs.Math.Path.{refl}
use Rattle.std.proofs.Math.Nat.{mul-le-mul_right, pow-le-pow_right}
use native.Mathlib.Omega.{arith}
use Rattle.std.proofs.Math.ListN.{get_or}
use Rattle.laws.specs.DivisionLaws.{div_mono}
use Rattle.laws.specs.JoinedLaws.{length-list_of, get_d-list_of}
use Rattle.laws.specs.Lists.{list_of}
use Rattle.ranges.specs.Limits.{most_period}
use Rattle.edf.specs.Demand.{demand_at, jobs_due}
use Rattle.edf.specs.DemandLaws.{meets_demand_within}
use Rattle.assignment.specs.KeyLaws.{keeps_in_base, keeps_length, key_below}
use Rattle.assignment.specs.Keeping.{Keeps}
use Rattle.assignment.specs.Keys.{key_base, plan_key}
use Rattle.knapsack.specs.Offered.{offer_at, offers_of}
use Rattle.knapsack.specs.Offers.{entry_cost, pattern_cost}
use Rattle.lagrangian.specs.AdmittedLaws.{counted}
use Rattle.lagrangian.specs.TimedItems.{timed_core, TimedItems}
use Rattle.lagrangian.specs.PatternLaws.{timing_of_lem}
use Rattle.lagrangian.specs.FrontKeyLaws.{power_above_0}
use Rattle.lagrangian.specs.TimedCores.{entry_ticks, pattern_tasks, timing_at, timing_in, timings_of}
use Rattle.lagrangian.specs.declared.Timed.{Timed}
use Rattle.timed_sets.specs.ChangedLaws.{changed_keeps, changed_key, changed_cost, changed_demand}
use Rattle.timed_sets.specs.Exchange.{Partner, HigherFirst, LongerFirst, OutOfOrder, exchanged, urgency_of, urgency}
use Rattle.timed_parts.specs.ServableLaws.{run_level_below}

-- products of two pairs, each in order, are least crosswise

crosswise : (a d v e : ℕ) → (a + d) * v + a * (v + e) + d * e ≡ a * v + (a + d) * (v + e)
crosswise a d v e = omega arith

crossed : (a b v w : ℕ) → a ≤ b → v ≤ w → b * v + a * w ≤ a * v + b * w
crossed a b v w le also =
    let is_b : a + (b - a) ≡ b = omega arith in
    let is_w : v + (w - v) ≡ w = omega arith in
    omega (arith, rw (is_b, is_w) at (crosswise a (b - a) v (w - v)))

crossed_less : (a b v w : ℕ) → a < b → v < w → b * v + a * w < a * v + b * w
crossed_less a b v w less also =
    let is_b : a + (b - a) ≡ b = omega arith in
    let is_w : v + (w - v) ≡ w = omega arith in
    let some : 0 < (b - a) * (w - v) = mul-pos (omega arith) (omega arith) in
    omega (arith, rw (is_b, is_w) at (crosswise a (b - a) v (w - v)))

power_less : {k m : ℕ} → k < m → key_base ^ k < key_base ^ m
unfolding key_base
power_less {k} {m} less =
    let some : 0 < 33 = omega arith in
    let most : 33 ^ suc k ≤ 33 ^ m = pow-le-pow_right some less in
    omega (arith, pow-suc 33 k, power_above_0 k)

-- what adds up entry by entry, with two entries exchanged
exchanged_sum : (total : List ℕ → ℕ) (part : ℕ → ℕ → ℕ) (pattern : List ℕ) (j i : ℕ) → j ≢ i →
    ((p : List ℕ) (c : ℕ) → length p ≡ length pattern → total (set p j c) + part j (get_or p j 0) ≡ total p + part j c) →
    ((p : List ℕ) (c : ℕ) → length p ≡ length pattern → total (set p i c) + part i (get_or p i 0) ≡ total p + part i c) →
    total (exchanged pattern j i) + (part j (get_or pattern j 0) + part i (get_or pattern i 0))
    ≡ total pattern + (part j (get_or pattern i 0) + part i (get_or pattern j 0))
unfolding exchanged
exchanged_sum total part pattern j i other at_j at_i =
    let first = at_j pattern (get_or pattern i 0) refl in
    let second = at_i (set pattern j (get_or pattern i 0)) (get_or pattern j 0) (length-set pattern j (get_or pattern i 0)) in
    omega (arith, first, rw (get_or-set_other pattern j i (get_or pattern i 0) 0 (λ e. other (sym e))) at second)

module _ {timed : Timed} {timings cost : List ℕ} {S : List Bool} {pattern : List ℕ} {j i : ℕ} (ready : TimedItems timed timings)
    (within : i < timed.items) (of_items : length S ≡ timed.items) (keeps : Keeps timed.levels S pattern)
    (partner : Partner timed timings cost j i) (out : OutOfOrder (timings_of timings timed.items) pattern j i) where
  long : length pattern ≡ timed.items
  long = keeps_length keeps ∙ of_items

  earlier_within : j < timed.items
  earlier_within = omega (arith, partner.earlier)

  distinct : j ≢ i
  distinct e = omega (arith, partner.earlier)

  at_most_levels : (k : ℕ) → get_or pattern k 0 ≤ timed.levels
  at_most_levels k = go (get_or pattern k 0) refl
    where
      go : (c : ℕ) → get_or pattern k 0 ≡ c → c ≤ timed.levels
      go zero is = omega arith
      go (suc l) is = run_level_below keeps k l is

  -- the first of the two has a higher level or more ticks than none
  first_runs : 0 < get_or pattern j 0
  unfolding entry_ticks
  first_runs = go (get_or pattern j 0) refl out.turned
    where
      go : (c : ℕ) → get_or pattern j 0 ≡ c →
          HigherFirst (timings_of timings timed.items) pattern j i ⊎ LongerFirst (timings_of timings timed.items) pattern j i → 0 < c
      go (suc l) is turned = omega arith
      go zero is (inl turned) = absurd (omega (arith, turned.higher))
      go zero is (inr turned) = absurd (omega (arith, rw is at turned.more_ticks))

  pub exchanged_keeps : Keeps timed.levels S (exchanged pattern j i)
  unfolding exchanged
  exchanged_keeps =
      let changed = changed_keeps keeps j (get_or pattern i 0) first_runs out.runs (at_most_levels i) in
      changed_keeps changed i (get_or pattern j 0) (rw (get_or-set_other pattern j i (get_or pattern i 0) 0 (λ e. distinct (sym e))) out.runs)
      first_runs (at_most_levels j)

  same_entry_cost : (c : ℕ) → c ≤ timed.levels → entry_cost (offer_at [] cost j) c ≡ entry_cost (offer_at [] cost i) c
  unfolding entry_cost offer_at
  same_entry_cost zero few = refl
  same_entry_cost (suc l) few = partner.same_levels.costs l few

  changed_cost_of : (k : ℕ) → k < timed.items → (p : List ℕ) (c : ℕ) → length p ≡ length pattern →
      pattern_cost (offers_of [] cost timed.items) (set p k c) + entry_cost (offer_at [] cost k) (get_or p k 0)
      ≡ pattern_cost (offers_of [] cost timed.items) p + entry_cost (offer_at [] cost k) c
  unfolding offers_of
  changed_cost_of k l p c same =
      rw (get_d-list_of (offer_at [] cost) timed.items k (offer_at [] cost 0) l) at
      (changed_cost (offers_of [] cost timed.items) p k c (offer_at [] cost 0) (rw (length-list_of (offer_at [] cost) timed.items) l) (omega (arith, long)))

  pub exchanged_cost : pattern_cost (offers_of [] cost timed.items) (exchanged pattern j i) ≡ pattern_cost (offers_of [] cost timed.items) pattern
  exchanged_cost =
      omega (
        arith,
        same_entry_cost (get_or pattern i 0) (at_most_levels i),
        same_entry_cost (get_or pattern j 0) (at_most_levels j),
        exchanged_sum (pattern_cost (offers_of [] cost timed.items)) (λ k c. entry_cost (offer_at [] cost k) c) pattern j i distinct
            (changed_cost_of j earlier_within) (changed_cost_of i within),
      )

  pub exchanged_key : HigherFirst (timings_of timings timed.items) pattern j i → plan_key (exchanged pattern j i) < plan_key pattern
  exchanged_key turned =
      let weight : ℕ → ℕ = λ k. key_base ^ (timed.items - 1 - k) in
      let heavier : weight i < weight j = power_less (omega (arith, partner.earlier)) in
      omega (
        arith,
        crossed_less (get_or pattern i 0) (get_or pattern j 0) (weight i) (weight j) turned.higher heavier,
        exchanged_sum plan_key (λ k c. c * key_base ^ (timed.items - 1 - k)) pattern j i distinct
            (λ p c same. changed_key p j c (timed.items - 1 - j) (omega (arith, long, earlier_within)))
            (λ p c same. changed_key p i c (timed.items - 1 - i) (omega (arith, long))),
      )

  -- the later of the two has no more ticks

  same_entry_ticks : (c : ℕ) → c ≤ timed.levels →
      entry_ticks (timing_in (timings_of timings timed.items) j) c ≡ entry_ticks (timing_in (timings_of timings timed.items) i) c
  unfolding entry_ticks
  same_entry_ticks c few = rw (timing_of_lem timings timed.items j earlier_within, timing_of_lem timings timed.items i within) (go c few)
    where
      go : (c : ℕ) → c ≤ timed.levels → entry_ticks (timing_at timings j) c ≡ entry_ticks (timing_at timings i) c
      go zero few = refl
      go (suc l) few = partner.same_levels.ticks l few

  -- the ticks of a job by an entry, of either item
  abbrev ticks : ℕ → ℕ
  ticks c = entry_ticks (timing_in (timings_of timings timed.items) i) c

  fewer_first : HigherFirst (timings_of timings timed.items) pattern j i → ticks (get_or pattern j 0) ≤ ticks (get_or pattern i 0)
  fewer_first turned = rw (← same_entry_ticks (get_or pattern j 0) (at_most_levels j)) turned.no_more_ticks

  more_first : LongerFirst (timings_of timings timed.items) pattern j i → ticks (get_or pattern i 0) < ticks (get_or pattern j 0)
  more_first turned = rw (← same_entry_ticks (get_or pattern j 0) (at_most_levels j)) turned.more_ticks

  first_no_sooner : HigherFirst (timings_of timings timed.items) pattern j i → (timing_at timings i).window ≤ (timing_at timings j).window
  first_no_sooner turned =
      rw (timing_of_lem timings timed.items j earlier_within, timing_of_lem timings timed.items i within) at turned.due_no_sooner

  pub first_sooner : LongerFirst (timings_of timings timed.items) pattern j i → (timing_at timings j).window < (timing_at timings i).window
  first_sooner turned =
      rw (timing_of_lem timings timed.items j earlier_within, timing_of_lem timings timed.items i within) at turned.due_sooner

  -- what adds up to ticks times a weight that is no less where a window is no longer is no more once the two are exchanged
  weighs_no_more : (total : List ℕ → ℕ) (w : ℕ → ℕ) →
      ((a b : ℕ) → a < timed.items → b < timed.items → (timing_at timings a).period ≡ (timing_at timings b).period →
      (timing_at timings b).window ≤ (timing_at timings a).window → w a ≤ w b) →
      ((k : ℕ) → k < timed.items → (p : List ℕ) (c : ℕ) → length p ≡ length pattern →
      total (set p k c) + entry_ticks (timing_in (timings_of timings timed.items) k) (get_or p k 0) * w k
      ≡ total p + entry_ticks (timing_in (timings_of timings timed.items) k) c * w k) →
      (total (exchanged pattern j i) ≤ total pattern)
      × (LongerFirst (timings_of timings timed.items) pattern j i → w i < w j → total (exchanged pattern j i) < total pattern)
  weighs_no_more total w falls changed = (no_more out.turned, less)
    where
      sums : total (exchanged pattern j i) + (ticks (get_or pattern j 0) * w j + ticks (get_or pattern i 0) * w i)
          ≡ total pattern + (ticks (get_or pattern i 0) * w j + ticks (get_or pattern j 0) * w i)
      sums =
          rw (same_entry_ticks (get_or pattern i 0) (at_most_levels i), same_entry_ticks (get_or pattern j 0) (at_most_levels j)) at
          (exchanged_sum total (λ k c. entry_ticks (timing_in (timings_of timings timed.items) k) c * w k) pattern j i distinct
          (changed j earlier_within) (changed i within))

      no_more : HigherFirst (timings_of timings timed.items) pattern j i ⊎ LongerFirst (timings_of timings timed.items) pattern j i →
          total (exchanged pattern j i) ≤ total pattern
      no_more (inl turned) =
          omega (
            arith,
            crossed (ticks (get_or pattern j 0)) (ticks (get_or pattern i 0)) (w j) (w i) (fewer_first turned)
                (falls j i earlier_within within partner.same_period (first_no_sooner turned)),
            sums,
          )
      no_more (inr turned) =
          omega (
            arith,
            crossed (ticks (get_or pattern i 0)) (ticks (get_or pattern j 0)) (w i) (w j) (le_of_lt (more_first turned))
                (falls i j within earlier_within (sym partner.same_period) (le_of_lt (first_sooner turned))),
            sums,
          )

      less : LongerFirst (timings_of timings timed.items) pattern j i → w i < w j → total (exchanged pattern j i) < total pattern
      less turned lighter =
          omega (
            arith,
            crossed_less (ticks (get_or pattern i 0)) (ticks (get_or pattern j 0)) (w i) (w j) (more_first turned) lighter,
            sums,
          )

  -- no more is due by any tick

  -- how many jobs of an item are due by a tick
  abbrev jobs : (k x : ℕ) → ℕ
  jobs k x = jobs_due (pattern_tasks (timings_of timings timed.items) pattern) k x

  fewer_jobs : (x a b : ℕ) → a < timed.items → b < timed.items → (timing_at timings a).period ≡ (timing_at timings b).period →
      (timing_at timings b).window ≤ (timing_at timings a).window → jobs a x ≤ jobs b x
  unfolding jobs_due pattern_tasks
  fewer_jobs x a b within_a within_b same no_sooner =
      rw (timing_of_lem timings timed.items a within_a, timing_of_lem timings timed.items b within_b, same)
      (div_mono _ _ (timing_at timings b).period (omega (arith, (ready.item b within_b).window_above_0, (ready.item b within_b).window_within_period))
      (omega (arith, no_sooner)))

  changed_demand_of : (x k : ℕ) → k < timed.items → (p : List ℕ) (c : ℕ) → length p ≡ length pattern →
      demand_at (pattern_tasks (timings_of timings timed.items) (set p k c)) x
      + entry_ticks (timing_in (timings_of timings timed.items) k) (get_or p k 0) * jobs k x
      ≡ demand_at (pattern_tasks (timings_of timings timed.items) p) x + entry_ticks (timing_in (timings_of timings timed.items) k) c * jobs k x
  unfolding jobs_due pattern_tasks
  changed_demand_of x k l p c same =
      changed_demand (timings_of timings timed.items) p k c x (rw (counted ready) l) (omega (arith, long))

  pub exchanged_admitted : (timed_core timed timings cost).admits pattern ≡ true → (timed_core timed timings cost).admits (exchanged pattern j i) ≡ true
  exchanged_admitted met =
      (meets_demand_within _ timed.span).1
      (λ x l. le_trans
      (weighs_no_more (λ p. demand_at (pattern_tasks (timings_of timings timed.items) p) x) (λ k. jobs k x) (fewer_jobs x) (changed_demand_of x)).0
      ((meets_demand_within _ timed.span).0 met x l))

  -- the ticks weigh no more, those that are due sooner more than others

  abbrev spare : ℕ → ℕ
  spare k = most_period - (timing_at timings k).window

  entry_urgency : (k c : ℕ) → entry_cost (urgency_of timings k) c ≡ entry_ticks (timing_at timings k) c * spare k
  unfolding entry_cost urgency_of entry_ticks
  entry_urgency k zero = omega arith
  entry_urgency k (suc l) = refl

  changed_urgency_of : (k : ℕ) → k < timed.items → (p : List ℕ) (c : ℕ) → length p ≡ length pattern →
      urgency timed timings (set p k c) + entry_ticks (timing_in (timings_of timings timed.items) k) (get_or p k 0) * spare k
      ≡ urgency timed timings p + entry_ticks (timing_in (timings_of timings timed.items) k) c * spare k
  changed_urgency_of k l p c same =
      rw (timing_of_lem timings timed.items k l, ← entry_urgency k (get_or p k 0), ← entry_urgency k c)
      (rw (get_d-list_of (urgency_of timings) timed.items k (urgency_of timings 0) l) at
      (changed_cost (list_of (urgency_of timings) timed.items) p k c (urgency_of timings 0)
      (rw (length-list_of (urgency_of timings) timed.items) l) (omega (arith, long))))

  exchanged_urgency : (urgency timed timings (exchanged pattern j i) ≤ urgency timed timings pattern)
      × (LongerFirst (timings_of timings timed.items) pattern j i → spare i < spare j →
      urgency timed timings (exchanged pattern j i) < urgency timed timings pattern)
  exchanged_urgency =
      weighs_no_more (urgency timed timings) spare (λ a b within_a within_b same no_sooner. omega arith) changed_urgency_of

  -- the urgency falls, or the key does
  pub exchanged_measure : urgency timed timings (exchanged pattern j i) * key_base ^ timed.items + plan_key (exchanged pattern j i)
      < urgency timed timings pattern * key_base ^ timed.items + plan_key pattern
  unfolding key_base
  exchanged_measure = go out.turned
    where
      go : HigherFirst (timings_of timings timed.items) pattern j i ⊎ LongerFirst (timings_of timings timed.items) pattern j i →
          urgency timed timings (exchanged pattern j i) * key_base ^ timed.items + plan_key (exchanged pattern j i)
          < urgency timed timings pattern * key_base ^ timed.items + plan_key pattern
      go (inl turned) =
          omega (arith, mul-le-mul_right (key_base ^ timed.items) exchanged_urgency.0, exchanged_key turned)
      go (inr turned) =
          let few : timed.levels < key_base = omega (arith, ready.few_levels) in
          let digits : plan_key (exchanged pattern j i) < key_base ^ timed.items =
          rw (keeps_length exchanged_keeps ∙ of_items) at (key_below (keeps_in_base few exchanged_keeps)) in
          let lighter : spare i < spare j =
          omega (arith, first_sooner turned, (ready.item i within).window_within_period, (ready.item i within).period_at_most) in
          omega (arith, mul-le-mul_right (key_base ^ timed.items) (exchanged_urgency.1 turned lighter), digits)
