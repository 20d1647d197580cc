use Rattle.std.proofs.Common.{add-one, arith}
use Rattle.choice_lists.specs.AppendItems.{level_room, append_no_level, append_no_room, append_one_level}
use Rattle.choice_lists.specs.SpreadItems.{item_choice_fits}
use Rattle.choice_lists.proofs.short.append_item.Goals.{then-choice-front, else-choice-front}
use Rattle.choice_lists.proofs.short.append_item.Goals as goal

pub loop-l-init : goal.loop-l-init
loop-l-init c = append_no_level _

pub choice_at-choice-requires : goal.choice_at-choice-requires
choice_at-choice-requires c =
    item_choice_fits c.requires.item c.loop-l-test.true

pub append_level-end-requires : goal.append_level-end-requires
append_level-end-requires c =
    level_room c.requires c.loop-l-test.true c.loop-l.invariant c.choice_at-choice.ensures c.if-choice-front.true

pub loop-l-preserved : goal.loop-l-preserved
loop-l-preserved c =
    let fits = c.requires in
    let sofar = c.loop-l.invariant in
    let under = c.loop-l-test.true in
    let chosen = c.choice_at-choice.ensures in
    rw add-one
    (elim c.if-choice-front.branch [
      | then-choice-front w ↦ rw (w.points-is, w.end-is) (append_one_level fits under sofar chosen w.if-choice-front.true w.append_level-end.ensures)
      | else-choice-front w ↦ rw (w.points-is, w.end-is) (append_no_room fits under sofar chosen (omega (arith, w.if-choice-front.false)))
    ])
