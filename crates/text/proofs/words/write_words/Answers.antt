use Rattle.std.proofs.Common.{sym, arith}
use Rattle.text.specs.TextLaws.{NumberTaken, token_says}
use Rattle.text.specs.TextSteps.{nothing_written, room_for_next, word_written, all_written, no_fault_left}
use Rattle.text.proofs.words.write_words.Goals as goal

pub loop-word-init : goal.loop-word-init
loop-word-init c = nothing_written _ _

pub bounds-words-written : goal.bounds-words-written
bounds-words-written c =
    room_for_next _ _ _ _ _ c.requires c.loop-word.invariant _ _ (token_says _ _ (sym c.in-Number.ensures))

pub loop-word-smaller : goal.loop-word-smaller
loop-word-smaller c =
    let taken : NumberTaken c.args.text.now c.loop-word.at c.in-Number.word c.in-Number.next = token_says _ _ (sym c.in-Number.ensures) in
    omega arith

pub loop-word-preserved : goal.loop-word-preserved
loop-word-preserved c =
    word_written _ _ _ _ _ c.requires c.loop-word.invariant _ _ (token_says _ _ (sym c.in-Number.ensures))

pub returns-in-End : goal.returns-in-End
returns-in-End c = all_written _ _ _ _ _ c.requires c.loop-word.invariant (token_says _ _ (sym c.in-End.ensures))

pub returns-in-Fault : goal.returns-in-Fault
returns-in-Fault c =
    absurd (no_fault_left _ _ _ _ _ c.requires c.loop-word.invariant _ (token_says _ _ (sym c.in-Fault.ensures)))
