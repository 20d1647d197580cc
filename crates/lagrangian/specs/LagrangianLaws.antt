-- Weak duality: no admitted pattern that goes on from a front costs less than the front, its ticks at their prices and the least priced
-- of the items to come, less the budget.
use Rattle.std.specs.Prelude.{◌≡◌, ℕ, suc, ◌+◌, ◌*◌, ◌<◌, ◌≤◌, Bool, true, List, [], ◌∷◌, ◌++◌, length, slice_index, refl}
use Rattle.std.proofs.Common.{ap, ap₂, ◌∙◌}
use Rattle.std.proofs.Math.Nat.{le_trans}
use native.Mathlib.Omega.{arith}
use Rattle.std.proofs.Math.ListN.{length-append}
use Rattle.laws.specs.Sums.{sum}
use Rattle.laws.specs.SumLaws.{sum_cong}
use Rattle.assignment.specs.Keeping.{Keeps}
use Rattle.assignment.specs.Values.{Value, pair}
use Rattle.knapsack.specs.Offered.{offers_of}
use Rattle.knapsack.specs.Offers.{pattern_cost}
use Rattle.lagrangian.specs.AdmittedLaws.{reached_within_window}
use Rattle.lagrangian.specs.Lagrangians.{price_of, least_priced, Relaxes}
use Rattle.lagrangian.specs.TimedItems.{timed_core, TimedReady}
use Rattle.lagrangian.specs.PatternLaws.{cost_of_none, cost_of_run, entry_there, entry_elsewhere, timing_of_lem}
use Rattle.lagrangian.specs.Reached.{worth_on, Reached, whole, passed, runs}
use Rattle.lagrangian.specs.ReachedPatterns.{pattern_reached}
use Rattle.lagrangian.specs.TimedCores.{entry_ticks, timing_in, timings_of}
use Rattle.lagrangian.specs.declared.Lagrangian.{Lagrangian}
use Rattle.lagrangian.specs.declared.Timed.{Timed}

-- one item more at the end of a front
price_of_next : (timed : Timed) (timings prices q : List ℕ) (c : ℕ) →
    price_of timed timings prices (q ++ (c ∷ []))
    ≡ price_of timed timings prices q + slice_index prices (length q) * entry_ticks (timing_in (timings_of timings timed.items) (length q)) c
unfolding price_of sum
price_of_next timed timings prices q c =
    let longer : length (q ++ (c ∷ [])) ≡ suc (length q) = length-append q (c ∷ []) ∙ omega arith in
    let its : ℕ → ℕ → ℕ = λ (i e : ℕ). slice_index prices i * entry_ticks (timing_in (timings_of timings timed.items) i) e in
    let before : sum (λ i. its i (slice_index (q ++ (c ∷ [])) i)) (length q) ≡ sum (λ i. its i (slice_index q i)) (length q) =
    sum_cong _ _ (length q) (λ i l. ap (its i) (entry_elsewhere q c i (λ same. omega arith))) in
    rw longer (ap₂ (λ (a b : ℕ). a + its (length q) b) before (entry_there q c))

module _ {timed : Timed} {timings cost : List ℕ} {relaxed : Lagrangian} (ready : TimedReady timed timings cost)
    (relaxes : Relaxes timed timings cost relaxed) where
  abbrev cost_of : List ℕ → ℕ
  cost_of = pattern_cost (offers_of [] cost timed.items)

  abbrev priced : List ℕ → ℕ
  priced = price_of timed timings relaxed.prices

  pub bound_from : {q : List ℕ} {T : List Bool} {level : ℕ} {v : Value} → length q + length T ≡ timed.items →
      Reached (timed_core timed timings cost) q T level v → (c k : ℕ) → v ≡ pair c k →
      cost_of q + priced q + least_priced relaxed.least (length q) T ≤ c + relaxed.budget
  unfolding least_priced worth_on entry_ticks
  bound_from {q} all (whole met) c k is =
      let same : cost_of q ≡ c = cc in
      omega (arith, relaxes.budgeted.within cost q (omega (arith, all)) met)
  bound_from {q} all (passed reached) c k is =
      let longer : length (q ++ (0 ∷ [])) ≡ suc (length q) = length-append q (0 ∷ []) ∙ omega arith in
      let later = rw longer at (bound_from {q = q ++ (0 ∷ [])} (omega (arith, longer, all)) reached c k is) in
      omega (arith, later, cost_of_none cost timed.items q (omega (arith, all)), price_of_next timed timings relaxed.prices q 0)
  bound_from {q} all (runs l from within reached) c k is =
      let longer : length (q ++ (suc l ∷ [])) ≡ suc (length q) = length-append q (suc l ∷ []) ∙ omega arith in
      let item : length q < timed.items = omega (arith, all) in
      let later = rw longer at (bound_from {q = q ++ (suc l ∷ [])} (omega (arith, longer, all)) reached c k is) in
      let here = relaxes.least (length q) l item within (reached_within_window ready.timed_items cost q l item reached) in
      let its = rw (timing_of_lem timings timed.items (length q) item) at (price_of_next timed timings relaxed.prices q (suc l)) in
      omega (arith, later, here, its, cost_of_run cost timed.items q item l)

  pub lagrangian_bound : (S : List Bool) → length S ≡ timed.items → (pattern : List ℕ) → Keeps timed.levels S pattern →
      (timed_core timed timings cost).admits pattern ≡ true →
      least_priced relaxed.least 0 S ≤ cost_of pattern + relaxed.budget
  unfolding worth_on
  lagrangian_bound S of_items pattern keeps met =
      le_trans (omega arith) (bound_from {q = []} (omega (arith, of_items)) (pattern_reached (timed_core timed timings cost) [] keeps met) _ _ refl)
