-- `kept_tasks` has the kept ones of the tasks that it has passed.
use Prim.Native.Nat.{◌-◌, ◌≤◌}
use Rattle.instance.specs.Held.{problem_in}
use Rattle.plan_rules.specs.KeptColumns.{KeptColumns}
use Rattle.plan_rules.proofs.columns.kept_tasks.Given as goal

abbrev pub invariant-loop-i : goal.invariant-loop-i
invariant-loop-i l = (l.i ≤ l.inst.taskcount) × KeptColumns (problem_in l.inst) l.plan l.k l.i l.kept
