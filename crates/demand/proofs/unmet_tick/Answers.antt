use native.Mathlib.Omega.{arith}
use Rattle.demand.specs.UnmetTickLaws.{end_of_span_decides}
use Rattle.demand.proofs.unmet_tick.Goals as goal

pub invariant_of-jobs : goal.invariant_of-jobs
invariant_of-jobs c = record { well_formed = c.requires.columns; words = λ i. omega (arith, c.type_inv.ticks i) }

pub returns : goal.returns
returns c =
    let ok = c.requires in
    let none_early = c.some_due_early.ensures c.if-some_due_early.false in
    end_of_span_decides _ _ _ _ ok none_early (rw c.demand_at.ensures at c.if-span-demand_at.false)
