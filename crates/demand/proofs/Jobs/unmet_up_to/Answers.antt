use mathlib.Core.Path.{◌≡◌}
use native.Mathlib.Omega.{arith}
use borrow.Author.Rules.{rules}
use Rattle.demand.specs.UnmetTickLaws.{goes_on_at, none_above_end, none_unmet}
use Rattle.demand.proofs.Jobs.unmet_up_to.Goals as goal

pub loop-tick-init : goal.loop-tick-init
loop-tick-init c = (search rules, none_above_end _ _)

pub loop-tick-preserved : goal.loop-tick-preserved
loop-tick-preserved c =
    let wf = c.args.self.now.well_formed.well_formed in
    let due = c.demand_at-due.ensures in
    let inv = c.loop-tick.invariant in
    (omega (arith, inv.0), goes_on_at _ _ wf _ _ (omega arith) inv.1)

pub returns : goal.returns
returns c =
    let wf = c.args.self.now.well_formed.well_formed in
    let none : c.loop-tick.tick ≡ 0 = omega arith in
    none_unmet _ _ wf (rw none at c.loop-tick.invariant.1)
