-- No admitted pattern that goes on from a front comes before what the front is worth and the table's value of the open items: a part
-- of an admitted pattern is admitted too.
use Rattle.std.specs.Prelude.{ℕ, zero, suc, ◌+◌, ◌*◌, ◌^◌, ◌≤◌, ◌<◌, Bool, true, false, List, [], ◌∷◌, ◌++◌, ◌≡◌, refl, get_or, replicate}
use Rattle.std.proofs.Math.Path.{ap, ap₂}
use Rattle.std.proofs.Common.{le_refl, le_trans, mul-le-mul_right, add-mul, mul_assoc, arith, length-append, pow-add}
use Rattle.std.proofs.Math.ListN.{length}
use Rattle.laws.specs.SumLaws.{sum_mono}
use Rattle.dispatch.specs.Rows.{CoreTasks}
use Rattle.edf.specs.Demand.{demand_at, jobs_due, meets_demand, ticks_due}
use Rattle.edf.specs.DemandLaws.{meets_demand_within}
use Rattle.assignment.specs.Keeping.{Keeps, refused}
use Rattle.assignment.specs.KeyLaws.{keeps_length}
use Rattle.assignment.specs.Keys.{key_base, plan_key}
use Rattle.assignment.specs.Sets.{set_number, table_at}
use Rattle.assignment.specs.Values.{Value, pair, add, AtMost}
use Rattle.assignment.specs.ValueLaws.{at_most-refl, add_mono}
use Rattle.knapsack.specs.Offers.{Offer, entry_cost, pattern_cost}
use Rattle.lagrangian.specs.PatternLaws.{no_front_no_cost}
use Rattle.lagrangian.specs.Reached.{OneCore, worth_on, Reached}
use Rattle.lagrangian.specs.ReachedPatterns.{reached_pattern}
use Rattle.lagrangian.specs.TimedCores.{Timing, timing_in, entry_ticks, pattern_tasks}

-- the front with every item left out
abbrev zeros : List ℕ → List ℕ
zeros q = replicate (length q) 0

abbrev pub unflagged : List ℕ → List Bool → List Bool
unflagged q T = replicate (length q) false ++ T

left_out_keeps : {levels : ℕ} {T : List Bool} {r : List ℕ} (q : List ℕ) → Keeps levels T r → Keeps levels (unflagged q T) (zeros q ++ r)
left_out_keeps [] keeps = keeps
left_out_keeps (c ∷ q) keeps = refused (left_out_keeps q keeps)

left_out_cost : (offers : List Offer) (q r : List ℕ) → pattern_cost offers (q ++ r) ≡ pattern_cost offers q + pattern_cost offers (zeros q ++ r)
unfolding pattern_cost entry_cost
left_out_cost offers [] r = omega (arith, no_front_no_cost offers)
left_out_cost [] (c ∷ q) r = refl
left_out_cost (offer ∷ offers) (c ∷ q) r = omega (arith, left_out_cost offers q r)

key_of_both : (q r : List ℕ) → plan_key (q ++ r) ≡ plan_key q * key_base ^ length r + plan_key r
unfolding plan_key
key_of_both [] r = omega arith
key_of_both (c ∷ q) r =
    rw (length-append q r, pow-add key_base (length q) (length r), key_of_both q r)
    (omega (arith, mul_assoc c (key_base ^ length q) (key_base ^ length r), add-mul (c * key_base ^ length q) (plan_key q) (key_base ^ length r)))

left_out_key : (q r : List ℕ) → plan_key (zeros q ++ r) ≡ plan_key r
unfolding plan_key
left_out_key [] r = refl
left_out_key (c ∷ q) r = omega (arith, left_out_key q r)

pub left_out_number : (q : List ℕ) (T : List Bool) → set_number (length q + length T) (unflagged q T) ≡ set_number (length T) T
unfolding set_number
left_out_number [] T = let none : 0 + length T ≡ length T = omega arith in rw none refl
left_out_number (c ∷ q) T =
    let one_more : suc (length q) + length T ≡ suc (length q + length T) = omega arith in
    rw one_more (omega (arith, left_out_number q T))

-- no more ticks anywhere
fewer_ticks : (timings : List Timing) (q r : List ℕ) (j : ℕ) →
    entry_ticks (timing_in timings j) (get_or (zeros q ++ r) j 0) ≤ entry_ticks (timing_in timings j) (get_or (q ++ r) j 0)
unfolding entry_ticks
fewer_ticks timings q r j = go q j (timing_in timings j)
  where
    go : (q : List ℕ) (j : ℕ) (timing : Timing) → entry_ticks timing (get_or (zeros q ++ r) j 0) ≤ entry_ticks timing (get_or (q ++ r) j 0)
    go [] j timing = le_refl _
    go (c ∷ q) zero timing = omega arith
    go (c ∷ q) (suc j) timing = go q j timing

pub fewer_ticks_meet : (core core₂ : CoreTasks) → core.size ≡ core₂.size → ((i : ℕ) → core.period i ≡ core₂.period i) →
    ((i : ℕ) → core.window i ≡ core₂.window i) → ((i : ℕ) → i < core.size → core.ticks i ≤ core₂.ticks i) → (span : ℕ) →
    meets_demand core₂ span ≡ true → meets_demand core span ≡ true
unfolding demand_at jobs_due
fewer_ticks_meet core core₂ sizes periods windows fewer span met =
    (meets_demand_within core span).1 (λ x within.
    le_trans
    (sum_mono (ticks_due core x) (ticks_due core₂ x) core.size
    (λ i l. rw (periods i, windows i) (mul-le-mul_right (jobs_due core₂ i x) (fewer i l))))
    (rw (← sizes) at ((meets_demand_within core₂ span).0 met x within)))

pub left_out_admitted : (timings : List Timing) (span : ℕ) (q r : List ℕ) → meets_demand (pattern_tasks timings (q ++ r)) span ≡ true →
    meets_demand (pattern_tasks timings (zeros q ++ r)) span ≡ true
unfolding pattern_tasks
left_out_admitted timings span q r met =
    fewer_ticks_meet _ _ refl (λ i. refl) (λ i. refl) (λ i l. fewer_ticks timings q r i) span met

-- any core of these costs that admits with a pattern each part of it
module _ (core : OneCore) (offers : List Offer) (costs : (pattern : List ℕ) → core.cost pattern ≡ pattern_cost offers pattern)
    (parts : (q r : List ℕ) → core.admits (q ++ r) ≡ true → core.admits (zeros q ++ r) ≡ true)
    (n : ℕ) (low_costs low_keys : List ℕ)
    (lower : (S : List Bool) → length S ≡ n → (pattern : List ℕ) → Keeps core.levels S pattern → core.admits pattern ≡ true →
    AtMost (table_at n low_costs low_keys S) (worth_on core pattern)) where
  pub bound_below : {q : List ℕ} {T : List Bool} {level : ℕ} {v : Value} → length (unflagged q T) ≡ n → Reached core q T level v →
      AtMost (add (pair (core.cost q) (plan_key q * key_base ^ length T)) (table_at n low_costs low_keys (unflagged q T))) v
  unfolding worth_on add
  bound_below {q} {T} of_items reached =
      let (r, keeps, met, worth) = reached_pattern core reached in
      let both : add (pair (core.cost q) (plan_key q * key_base ^ length T)) (worth_on core (zeros q ++ r)) ≡ worth_on core (q ++ r) =
      ap₂ pair
      (omega (arith, costs q, costs (zeros q ++ r), costs (q ++ r), left_out_cost offers q r))
      (omega (arith, key_of_both q r, left_out_key q r, ap (λ (k : ℕ). plan_key q * key_base ^ k) (keeps_length keeps))) in
      rw (worth, ← both)
      (add_mono (at_most-refl (pair (core.cost q) (plan_key q * key_base ^ length T))) (lower (unflagged q T) of_items (zeros q ++ r) (left_out_keeps q keeps) (parts q r met)))
