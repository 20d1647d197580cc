use Rattle.std.proofs.Common.{add-one, arith}
use Rattle.choice_lists.specs.SpreadItems.{item_choice_fits, sums_small, spread_no_level, spread_no_room, spread_one_level}
use Rattle.choice_lists.proofs.long.spread_item.Goals.{then-choice-front, else-choice-front}
use Rattle.choice_lists.proofs.long.spread_item.Goals as goal

pub loop-l-init : goal.loop-l-init
loop-l-init c = spread_no_level c.requires.cleared

pub choice_at-choice-requires : goal.choice_at-choice-requires
choice_at-choice-requires c =
    item_choice_fits c.requires.item_fits c.loop-l-test.true

pub spread_level-requires-clause-sums_small : goal.spread_level-requires-clause-sums_small
spread_level-requires-clause-sums_small c =
    sums_small c.requires.item_fits c.loop-l-test.true c.choice_at-choice.ensures c.if-choice-front.true

pub loop-l-preserved : goal.loop-l-preserved
loop-l-preserved c =
    let fits = c.requires.item_fits in
    let sofar = c.loop-l.invariant in
    let under = c.loop-l-test.true in
    let chosen = c.choice_at-choice.ensures in
    rw add-one
    (elim c.if-choice-front.branch [
      | then-choice-front w ↦ rw w.spread-is (spread_one_level fits under chosen sofar w.if-choice-front.true w.spread_level.ensures)
      | else-choice-front w ↦ rw w.spread-is (spread_no_room fits under chosen sofar (omega (arith, w.if-choice-front.false)))
    ])
