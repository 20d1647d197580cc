use Rattle.std.proofs.Common.{sym}
use Rattle.text.specs.TokenSteps.{at_least_48, number_at_end, number_at_no_digit, digit_read, number_too_large}
use Rattle.text.proofs.words.number_from.Goals as goal

pub returns-then-not-is_digit : goal.returns-then-not-is_digit
returns-then-not-is_digit c =
    let inside = c.loop-at-test.true in
    let read = c.loop-at.invariant in
    let no_digit = sym c.if-not-is_digit.ensures in
    sym (number_at_no_digit _ _ inside _ _ read no_digit)

pub overflow_sub-value : goal.overflow_sub-value
overflow_sub-value c = at_least_48 _ (sym c.if-not-is_digit.ensures)

pub returns-then-value-gt-MOST_WORD : goal.returns-then-value-gt-MOST_WORD
returns-then-value-gt-MOST_WORD c =
    let inside = c.loop-at-test.true in
    let read = c.loop-at.invariant in
    let digit = sym c.if-not-is_digit.ensures in
    sym (number_too_large _ _ inside _ _ read digit c.if-value-gt-MOST_WORD.true)

pub loop-at-preserved : goal.loop-at-preserved
loop-at-preserved c =
    let inside = c.loop-at-test.true in
    let read = c.loop-at.invariant in
    let digit = sym c.if-not-is_digit.ensures in
    digit_read _ _ inside _ _ read digit c.if-value-gt-MOST_WORD.false

pub returns : goal.returns
returns c = sym (number_at_end _ _ c.loop-at-test.false _ _ c.loop-at.invariant)
