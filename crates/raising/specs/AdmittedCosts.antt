-- What an admitted pattern costs at most: each of its items has its jobs' ticks within their windows, and costs no more than an item may.
use Prim.Native.Nat.{ℕ, suc, ◌+◌, ◌*◌, ◌≤◌, ◌<◌}
use Rattle.std.specs.Prelude.{Bool, true, ◌≡◌}
use mathlib.Core.List.{List, [], ◌∷◌, ◌++◌}
use Rattle.std.proofs.Math.Path.{refl}
use Rattle.std.proofs.Common.{◌∙◌}
use Rattle.std.proofs.Math.Nat.{mul-le-mul_right}
use native.Mathlib.Omega.{arith}
use Rattle.std.proofs.Math.ListN.{length, length-append}
use Rattle.assignment.specs.Keeping.{Keeps}
use Rattle.assignment.specs.Limits.{most_cost, most_core_cost}
use Rattle.assignment.specs.Values.{Value, pair}
use Rattle.knapsack.specs.Offered.{offers_of}
use Rattle.knapsack.specs.Offers.{pattern_cost}
use Rattle.lagrangian.specs.AdmittedLaws.{reached_within_window}
use Rattle.lagrangian.specs.TimedItems.{timed_core, TimedReady}
use Rattle.lagrangian.specs.PatternLaws.{cost_of_none, cost_of_run, no_front_no_cost}
use Rattle.lagrangian.specs.Reached.{worth_on, Reached, whole, passed, runs}
use Rattle.lagrangian.specs.ReachedPatterns.{pattern_reached}
use Rattle.lagrangian.specs.declared.Timed.{Timed}

module _ {timed : Timed} {timings cost : List ℕ} (ready : TimedReady timed timings cost) where
  abbrev cost_of : List ℕ → ℕ
  cost_of = pattern_cost (offers_of [] cost timed.items)

  cost_from : {q : List ℕ} {T : List Bool} {level : ℕ} {v : Value} → length q + length T ≡ timed.items →
      Reached (timed_core timed timings cost) q T level v → (c k : ℕ) → v ≡ pair c k → c ≤ cost_of q + length T * most_cost
  unfolding worth_on
  cost_from {q} all (whole met) c k is = let same : cost_of q ≡ c = cc in omega arith
  cost_from {q} all (passed reached) c k is =
      let longer : length (q ++ (0 ∷ [])) ≡ suc (length q) = length-append q (0 ∷ []) ∙ omega arith in
      let later = cost_from {q = q ++ (0 ∷ [])} (omega (arith, longer, all)) reached c k is in
      omega (arith, later, cost_of_none cost timed.items q (omega (arith, all)))
  cost_from {q} all (runs l from within reached) c k is =
      let longer : length (q ++ (suc l ∷ [])) ≡ suc (length q) = length-append q (suc l ∷ []) ∙ omega arith in
      let item : length q < timed.items = omega (arith, all) in
      let later = cost_from {q = q ++ (suc l ∷ [])} (omega (arith, longer, all)) reached c k is in
      let here = ready.cheap (length q) l item within (reached_within_window ready.timed_items cost q l item reached) in
      omega (arith, later, here, cost_of_run cost timed.items q item l)

  pub admitted_cost_at_most : (S : List Bool) → length S ≡ timed.items → (pattern : List ℕ) → Keeps timed.levels S pattern →
      (timed_core timed timings cost).admits pattern ≡ true → cost_of pattern ≤ most_core_cost
  unfolding worth_on
  admitted_cost_at_most S of_items pattern keeps met =
      let whole_cost = cost_from {q = []} (omega (arith, of_items)) (pattern_reached (timed_core timed timings cost) [] keeps met) _ _ refl in
      let few = ready.timed_items.few_items in
      omega (arith, whole_cost, no_front_no_cost (offers_of [] cost timed.items), of_items, mul-le-mul_right most_cost few)
