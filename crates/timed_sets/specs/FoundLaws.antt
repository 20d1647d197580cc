-- What is found from a node, by what is found from the nodes after it.
use Rattle.std.specs.Prelude.{ℕ, suc, ◌+◌, ◌-◌, ◌^◌, ◌≤◌, ◌<◌, Bool, true, false, ◌⊎◌, ◌≢◌, ◌≡◌}
use mathlib.Core.List.{List, [], ◌∷◌, ◌++◌}
use Rattle.std.proofs.Math.Logic.{inl, inr}
use Rattle.std.proofs.Math.Path.{refl, ap}
use Rattle.std.proofs.Common.{sym, ◌∙◌, add-one}
use native.Mathlib.Omega.{arith}
use Rattle.std.proofs.Math.ListN.{length}
use Rattle.assignment.specs.Sets.{set_number}
use Rattle.assignment.specs.SetLaws.{set_number-below}
use Rattle.assignment.specs.Values.{Value, none}
use Rattle.knapsack.specs.Offered.{entry_of}
use Rattle.values.specs.WorthLaws.{lesser_worth-value}
use Rattle.values.specs.Worths.{lesser_worth, worth_of}
use Rattle.values.specs.declared.value.Worth.{Worth}
use Rattle.lagrangian.specs.TimedItems.{timed_core, TimedItems, TimedReady}
use Rattle.lagrangian.specs.Reached.{OneCore, passing, Reached, whole, passed, runs}
use Rattle.lagrangian.specs.TimedCores.{timing_at}
use Rattle.lagrangian.specs.declared.Timed.{Timed}
use Rattle.timed_parts.specs.WindowLaws.{too_long_is_not_reached}
use Rattle.timed_sets.specs.Exchange.{NotRun, too_long, out_of_order, Partners}
use Rattle.timed_parts.specs.Nodes.{Stands, passed_over, run_at, next_level, NothingBefore}
use Rattle.timed_sets.specs.Found.{ordered, FoundFrom, OneFrom}
use Rattle.timed_parts.specs.NodeLaws.{stands_passed, stands_run, stands_next}
use Rattle.timed_sets.specs.OrderLaws.{out_of_order_is_not_reached}
use Rattle.timed_sets.specs.ReachedLaws.{nothing_before, known_lowered, passing_reached, pass_over, no_level_left, level_by_level}
use Rattle.timed_parts.specs.declared.Node.{Node}

-- the first item is in the set: its flag is set
data Flagged (half : ℕ) (T : List Bool) : Type 0 where
  flagged : (T' : List Bool) → T ≡ true ∷ T' → half ≡ 2 ^ length T' → Flagged half T

module _ {timed : Timed} {timings cost : List ℕ} {node : Node} {half : ℕ} (more : node.item ≢ timed.items)
    (is_half : half ≡ 2 ^ (timed.items - node.item - 1)) where
  -- the item is not in the set
  pub passed_stands : node.rest < half → (q : List ℕ) (T : List Bool) → Stands timed timings cost node q T →
      (q' : List ℕ) × (T' : List Bool) × Stands timed timings cost (passed_over node) q' T'
  unfolding set_number
  passed_stands fewer q [] stands = absurd (omega (arith, stands.behind))
  passed_stands fewer q (false ∷ T) stands = (q ++ (0 ∷ []), T, stands_passed stands)
  passed_stands fewer q (true ∷ T) stands = absurd (full fewer (length T) (omega (arith, stands.behind)) stands.rest)
    where
      full : node.rest < half → (m : ℕ) → m ≡ timed.items - node.item - 1 → node.rest ≡ 2 ^ m + set_number m T → ⊥
      full fewer m e rest = let same : half ≡ 2 ^ m = is_half ∙ ap (λ (k : ℕ). 2 ^ k) (sym e) in omega arith

  pub found_passed : {partners : List ℕ} → node.rest < half → {best r : Worth} →
      ((q : List ℕ) (T : List Bool) → Stands timed timings cost (passed_over node) q T → FoundFrom timed timings cost partners (passed_over node) q T best r) →
      (q : List ℕ) (T : List Bool) → Stands timed timings cost node q T → FoundFrom timed timings cost partners node q T best r
  unfolding set_number
  found_passed fewer found q [] stands = absurd (omega (arith, stands.behind))
  found_passed fewer found q (false ∷ T) stands =
      record { least = pass_over _ _ (found (q ++ (0 ∷ [])) T (stands_passed stands)).least }
  found_passed fewer found q (true ∷ T) stands = absurd (full fewer (length T) (omega (arith, stands.behind)) stands.rest)
    where
      full : node.rest < half → (m : ℕ) → m ≡ timed.items - node.item - 1 → node.rest ≡ 2 ^ m + set_number m T → ⊥
      full fewer m e rest = let same : half ≡ 2 ^ m = is_half ∙ ap (λ (k : ℕ). 2 ^ k) (sym e) in omega arith

  -- one pattern that passes the item over
  pub one_passed : node.rest < half → {r : Worth} →
      ((q : List ℕ) (T : List Bool) → Stands timed timings cost (passed_over node) q T → OneFrom timed timings cost q T r) →
      (q : List ℕ) (T : List Bool) → Stands timed timings cost node q T → OneFrom timed timings cost q T r
  unfolding set_number
  one_passed fewer found q [] stands = absurd (omega (arith, stands.behind))
  one_passed fewer {r} found q (false ∷ T) stands = record { one = go (found (q ++ (0 ∷ [])) T (stands_passed stands)).one }
    where
      go : (worth_of r ≡ none) ⊎ Reached (timed_core timed timings cost) (q ++ (0 ∷ [])) T 0 (worth_of r) →
          (worth_of r ≡ none) ⊎ Reached (timed_core timed timings cost) q (false ∷ T) 0 (worth_of r)
      go (inl e) = inl e
      go (inr reached) = inr (passed reached)
  one_passed fewer found q (true ∷ T) stands = absurd (full fewer (length T) (omega (arith, stands.behind)) stands.rest)
    where
      full : node.rest < half → (m : ℕ) → m ≡ timed.items - node.item - 1 → node.rest ≡ 2 ^ m + set_number m T → ⊥
      full fewer m e rest = let same : half ≡ 2 ^ m = is_half ∙ ap (λ (k : ℕ). 2 ^ k) (sym e) in omega arith

  is_flagged : half ≤ node.rest → (q : List ℕ) (T : List Bool) → Stands timed timings cost node q T → Flagged half T
  unfolding set_number
  is_flagged enough q [] stands = absurd (omega (arith, stands.behind))
  is_flagged enough q (true ∷ T) stands =
      flagged T refl (is_half ∙ ap (λ (k : ℕ). 2 ^ k) (omega (arith, stands.behind)))
  is_flagged enough q (false ∷ T) stands =
      let same : half ≡ 2 ^ length T = is_half ∙ ap (λ (k : ℕ). 2 ^ k) (omega (arith, stands.behind)) in
      absurd (omega (arith, stands.rest, set_number-below (length T) T))

  pub found_none : {partners : List ℕ} → half ≤ node.rest → node.level ≡ timed.levels → {best : Worth} →
      (q : List ℕ) (T : List Bool) → Stands timed timings cost node q T → FoundFrom timed timings cost partners node q T best best
  found_none {partners} enough all q T stands = go (is_flagged enough q T stands)
    where
      go : {best : Worth} → Flagged half T → FoundFrom timed timings cost partners node q T best best
      go (flagged T' e is) = rw e (record { least = no_level_left _ _ (omega arith) })

  -- at the node's level nothing is reached in order
  none_run : {partners : List ℕ} → TimedItems timed timings → Partners timed timings cost timed.items partners → NotRun timings partners node →
      (q : List ℕ) (T : List Bool) → Stands timed timings cost node q (true ∷ T) → {u : Value} →
      Reached (passing (ordered timed timings partners) (timed_core timed timings cost)) (q ++ (suc node.level ∷ [])) T 0 u → ⊥
  none_run {partners} ready are_partners (too_long long) q T stands reached =
      too_long_is_not_reached ready stands long (passing_reached (ordered timed timings partners) (timed_core timed timings cost) reached)
  none_run ready are_partners (out_of_order out) q T stands reached = out_of_order_is_not_reached ready are_partners stands out reached

  pub found_later : {partners : List ℕ} → TimedReady timed timings cost → Partners timed timings cost timed.items partners →
      half ≤ node.rest → node.level ≢ timed.levels → NotRun timings partners node → {best r : Worth} →
      ((q : List ℕ) (T : List Bool) → Stands timed timings cost (next_level node) q T → FoundFrom timed timings cost partners (next_level node) q T best r) →
      (q : List ℕ) (T : List Bool) → Stands timed timings cost node q T → FoundFrom timed timings cost partners node q T best r
  found_later {partners} ready are_partners enough level not_run {best} {r} found q T stands = go (is_flagged enough q T stands)
    where
      go : Flagged half T → FoundFrom timed timings cost partners node q T best r
      go (flagged T' e is) =
          rw e (record {
            least =
                level_by_level _ _ (omega (arith, stands.level))
                (nothing_before (λ u reached. absurd (none_run ready.timed_items are_partners not_run q T' (rw e at stands) reached)))
                (rw (e, add-one node.level) at (found q T (stands_next ready stands level)).least);
          })

  module _ (ready : TimedReady timed timings cost) (enough : half ≤ node.rest) (level : node.level ≢ timed.levels) {ticks its : ℕ}
      (are_ticks : ticks ≡ (timing_at timings node.item).ticks node.level) (is_cost : its ≡ entry_of cost node.item node.level)
      (within : ticks ≤ (timing_at timings node.item).window) where
    pub run_stands : (q : List ℕ) (T : List Bool) → Stands timed timings cost node q T →
        (q' : List ℕ) × (T' : List Bool) × Stands timed timings cost (run_at node half ticks its) q' T'
    run_stands q T stands = go (is_flagged enough q T stands)
      where
        go : Flagged half T → (q' : List ℕ) × (T' : List Bool) × Stands timed timings cost (run_at node half ticks its) q' T'
        go (flagged T' e is) =
            (q ++ (suc node.level ∷ []), T', stands_run ready (rw e at stands) half ticks its is (omega (arith, stands.level)) are_ticks is_cost within)

    pub found_both : {partners : List ℕ} {best here r : Worth} →
        ((q : List ℕ) (T : List Bool) → Stands timed timings cost (run_at node half ticks its) q T →
        FoundFrom timed timings cost partners (run_at node half ticks its) q T best here) →
        ((q : List ℕ) (T : List Bool) → Stands timed timings cost (next_level node) q T → FoundFrom timed timings cost partners (next_level node) q T here r) →
        (q : List ℕ) (T : List Bool) → Stands timed timings cost node q T → FoundFrom timed timings cost partners node q T best r
    found_both {partners} {best} {here} {r} this others q T stands = go (is_flagged enough q T stands)
      where
        go : Flagged half T → FoundFrom timed timings cost partners node q T best r
        go (flagged T' e is) =
            let child = stands_run ready (rw e at stands) half ticks its is (omega (arith, stands.level)) are_ticks is_cost within in
            rw e (record {
              least =
                  level_by_level _ _ (omega (arith, stands.level))
                  (this (q ++ (suc node.level ∷ [])) T' child).least
                  (rw (e, add-one node.level) at (others q T (stands_next ready stands level)).least);
            })

    -- one pattern that runs the item at the node's level
    pub one_run : {r : Worth} →
        ((q : List ℕ) (T : List Bool) → Stands timed timings cost (run_at node half ticks its) q T → OneFrom timed timings cost q T r) →
        (q : List ℕ) (T : List Bool) → Stands timed timings cost node q T → OneFrom timed timings cost q T r
    one_run {r} found q T stands = go (is_flagged enough q T stands)
      where
        at_level : {T' : List Bool} → (worth_of r ≡ none) ⊎ Reached (timed_core timed timings cost) (q ++ (suc node.level ∷ [])) T' 0 (worth_of r) →
            (worth_of r ≡ none) ⊎ Reached (timed_core timed timings cost) q (true ∷ T') 0 (worth_of r)
        at_level (inl e) = inl e
        at_level (inr reached) = inr (runs {level = 0} node.level (omega arith) (omega (arith, stands.level)) reached)

        go : Flagged half T → OneFrom timed timings cost q T r
        go (flagged T' e is) =
            let child = stands_run ready (rw e at stands) half ticks its is (omega (arith, stands.level)) are_ticks is_cost within in
            rw e (record { one = at_level (found (q ++ (suc node.level ∷ [])) T' child).one })

from_any_level : {core : OneCore} {q : List ℕ} {T : List Bool} {level : ℕ} {v : Value} → Reached core q T level v → Reached core q T 0 v
from_any_level (whole met) = whole met
from_any_level (passed reached) = passed reached
from_any_level (runs l from within reached) = runs {level = 0} l (omega arith) within reached

-- nothing that is reached comes before the best so far
pub found_nothing : {timed : Timed} {timings cost partners q : List ℕ} {T : List Bool} {node : Node} {best : Worth} →
    NothingBefore timed timings cost node q T best → FoundFrom timed timings cost partners node q T best best
found_nothing {timed} {timings} {cost} {partners} none_before =
    record {
      least =
          nothing_before
          (λ u reached. none_before.after u (passing_reached (ordered timed timings partners) (timed_core timed timings cost) reached));
    }

-- what a whole pattern is worth
pub one_whole : {timed : Timed} {timings cost partners q : List ℕ} {T : List Bool} {node : Node} {known r : Worth} → worth_of known ≡ none →
    FoundFrom timed timings cost partners node q T known r → OneFrom timed timings cost q T r
one_whole {timed} {timings} {cost} {partners} {q} {T} {node} {known} {r} is_none found = record { one = go found.least.attained }
  where
    go : (worth_of r ≡ worth_of known) ⊎ Reached (timed_core timed timings cost) q T node.level (worth_of r) →
        (worth_of r ≡ none) ⊎ Reached (timed_core timed timings cost) q T 0 (worth_of r)
    go (inl e) = inl (e ∙ is_none)
    go (inr reached) = inr (from_any_level reached)

-- from the lesser of a value and of what one pattern is worth the search goes on as from the value
pub found_from_one : {timed : Timed} {timings cost partners q : List ℕ} {T : List Bool} {node : Node} {most one best r : Worth} → node.level ≡ 0 →
    best ≡ lesser_worth most one → OneFrom timed timings cost q T one → FoundFrom timed timings cost partners node q T best r →
    FoundFrom timed timings cost partners node q T most r
found_from_one {most} {one} at_first is its found =
    let lowered = ap worth_of is ∙ lesser_worth-value most one in
    record { least = known_lowered (rw at_first its.one) (rw lowered at found.least) }
