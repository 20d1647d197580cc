-- Levels at which a job is longer than its window: a search passes them over.
use Rattle.std.specs.Prelude.{ℕ, suc, ◌<◌, Bool, true, List, [], ◌∷◌, ◌++◌}
use Rattle.std.proofs.Common.{arith}
use Rattle.assignment.specs.Values.{Value}
use Rattle.lagrangian.specs.TimedItems.{timed_core, TimedItems}
use Rattle.lagrangian.specs.Reached.{Reached}
use Rattle.lagrangian.specs.TimedCores.{timing_at}
use Rattle.lagrangian.specs.declared.Timed.{Timed}
use Rattle.lagrangian.specs.AdmittedLaws.{reached_within_window}
use Rattle.timed_parts.specs.Nodes.{Stands}
use Rattle.timed_parts.specs.declared.Node.{Node}

module _ {timed : Timed} {timings : List ℕ} (ready : TimedItems timed timings) where
  -- at a level at which a job is longer than its window nothing is reached
  pub too_long_is_not_reached : {cost : List ℕ} {node : Node} {q : List ℕ} {T : List Bool} → Stands timed timings cost node q (true ∷ T) →
      (timing_at timings node.item).window < (timing_at timings node.item).ticks node.level → {u : Value} →
      Reached (timed_core timed timings cost) (q ++ (suc node.level ∷ [])) T 0 u → ⊥
  too_long_is_not_reached {cost} {node} {q} {T} stands long reached =
      let fits = rw stands.front at (reached_within_window ready cost q node.level (omega (arith, stands.front, stands.behind)) reached) in
      omega arith
