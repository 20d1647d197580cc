use Rattle.std.proofs.Common.{◌≡◌, add-one, arith, length}
use Rattle.knapsack_tables.specs.ListReads.{least_of_none, point_read, least_if_dearer, least_if_cheap, least_of_all}
use Rattle.knapsack_tables.proofs.front.least_listed.Goals.{then-cost-best, else-cost-best}
use Rattle.knapsack_tables.proofs.front.least_listed.Goals as goal

pub loop-choice-init : goal.loop-choice-init
loop-choice-init c = least_of_none

pub overflow_add-key : goal.overflow_add-key
overflow_add-key c = record { fits = (point_read c.requires.3 {p = c.loop-choice.choice-index} (omega arith) c.loop-choice-test.true).key_fits }

pub returns : goal.returns
returns c =
    let at = c.loop-choice in
    let all : at.choice-index ≡ length c.args.list.now = omega arith in
    least_of_all (rw all at at.invariant)

pub loop-choice-preserved : goal.loop-choice-preserved
loop-choice-preserved c =
    let least = c.loop-choice.invariant in
    let under = c.loop-choice-test.true in
    rw add-one
    (elim c.if-cost-best.branch [
      | then-cost-best w ↦ rw (w.best-is, w.lesser-best.ensures) (least_if_cheap (omega arith) under least w.if-cost-best.true)
      | else-cost-best w ↦ rw w.best-is (least_if_dearer (omega arith) under least w.if-cost-best.false)
    ])
