use Prim.Native.Nat.{◌-◌, ◌≤◌}
use Rattle.instance.specs.Held.{problem_in}
use Rattle.offers.specs.OfferedOptions.{OptionsOffered}
use Rattle.offers.proofs.options.fill_options.Given as goal

abbrev pub invariant-loop-i : goal.invariant-loop-i
invariant-loop-i l =
    (l.i ≤ l.inst.taskcount) × OptionsOffered (problem_in l.inst) l.i l.load l.cost l.refusal l.must
