use Rattle.raising.specs.ToldLaws.{none_told, told_key, settled_told}
use Rattle.raising.proofs.table.Table.least_in_rounds.Goals as goal

pub returns-in_err-best : goal.returns-in_err-best
returns-in_err-best c = rw c.from_residual.ensures (none_told c.args.offer.now _ c.loop-best.invariant c.in_err-best.ensures)

pub raise_sets-raised-requires-clause-key_bound : goal.raise_sets-raised-requires-clause-key_bound
raise_sets-raised-requires-clause-key_bound c = told_key c.args.offer.now _ c.loop-best.invariant _ c.in_ok-best.ensures

pub returns-then-settled : goal.returns-then-settled
returns-then-settled c =
    settled_told c.args.offer.now _ c.loop-best.invariant _ c.in_ok-best.ensures _ c.raise_sets-raised.ensures c.if-settled.true
