-- `fill_best` copies the table of one core, and fills the values on one core more in each turn.
use Prim.Native.Nat.{◌^◌}
use mathlib.Core.Path.{◌≡◌}
use lib.ListN.{drop}
use Rattle.partition.specs.BestFilled.{BestFilled}
use Rattle.partition.proofs.cores.fill_best.Given as goal

abbrev pub invariant-loop-c : goal.invariant-loop-c
invariant-loop-c l = BestFilled l.items l.levels l.c l.corecosts l.corekeys l.costs l.keys × (drop (2 ^ l.items) l.costs ≡ drop (2 ^ l.items) l.initial.costs) × (drop (2 ^ l.items) l.keys ≡ drop (2 ^ l.items) l.initial.keys)
