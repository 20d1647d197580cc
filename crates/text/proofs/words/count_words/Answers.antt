use Rattle.std.proofs.Common.{sym, arith}
use Rattle.text.specs.TextLaws.{NumberTaken, token_says}
use Rattle.text.specs.TextSteps.{number_passed, all_counted, fault_is_first}
use Rattle.text.proofs.words.count_words.Goals as goal

pub loop-next-smaller : goal.loop-next-smaller
loop-next-smaller c =
    let taken : NumberTaken c.args.text.now c.loop-next.at c.in-Number.field-0 c.in-Number.next = token_says _ _ (sym c.in-Number.ensures) in
    omega arith

pub loop-next-preserved : goal.loop-next-preserved
loop-next-preserved c =
    let taken = token_says _ _ (sym c.in-Number.ensures) in number_passed _ _ _ c.loop-next.invariant _ _ taken

pub returns-in-End : goal.returns-in-End
returns-in-End c = all_counted _ _ _ c.loop-next.invariant (token_says _ _ (sym c.in-End.ensures))

pub returns-in-Fault : goal.returns-in-Fault
returns-in-Fault c = fault_is_first _ _ _ c.loop-next.invariant _ (token_says _ _ (sym c.in-Fault.ensures))
