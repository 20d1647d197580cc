-- `fill_lowest` makes each cost from the size of its set.
use Prim.Native.Nat.{◌^◌, ◌≤◌}
use mathlib.Core.Path.{◌≡◌}
use lib.ListN.{length}
use Rattle.raising.specs.LowestTables.{LowestBelow}
use Rattle.raising.proofs.table.Table.fill_lowest.Given as goal

abbrev pub invariant-loop-set : goal.invariant-loop-set
invariant-loop-set l = record {
  same_keys : l.self.keys ≡ l.initial.self.keys;
  same_left : l.self.left ≡ l.initial.self.left;
  costs_for_all : 2 ^ l.site.items ≤ length l.self.costs;
  so_far : LowestBelow l.site.items l.site.whole l.set l.self.costs;
}
