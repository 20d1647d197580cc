use Prim.Native.Nat.{◌≤◌}
use Rattle.instance.specs.Held.{problem_in}
use Rattle.planner.specs.EarlyLaws.{NoneEarly}
use Rattle.planner.proofs.best.is_early.Given as goal

abbrev pub invariant-loop-i : goal.invariant-loop-i
invariant-loop-i l = (l.i ≤ l.inst.taskcount) × NoneEarly (problem_in l.inst) l.i
