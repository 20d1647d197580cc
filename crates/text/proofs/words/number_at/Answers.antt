-- `text::words::number_at` meets its contract: blanks are skipped, and what stands there says which token it is.
use mathlib.Core.Path.{sym, ◌∙◌}
use Rattle.text.specs.TokenSteps.{token_at_end, token_at_digit, token_at_other_byte}
use Rattle.text.proofs.words.number_at.Goals as goal

pub returns-then-text-first : goal.returns-then-text-first
returns-then-text-first c = sym (c.after_blanks-first.ensures.same ∙ token_at_end _ _ c.if-text-first.true)

pub returns-then-is_digit : goal.returns-then-is_digit
returns-then-is_digit c =
    let skipped = c.after_blanks-first.ensures in
    let inside = c.if-text-first.false in
    let digit = sym c.is_digit.ensures ∙ c.if-is_digit.true in
    c.number_from.ensures ∙ sym (skipped.same ∙ token_at_digit _ _ inside (skipped.stop inside) digit)

pub returns : goal.returns
returns c =
    let skipped = c.after_blanks-first.ensures in
    let inside = c.if-text-first.false in
    let no_digit = sym c.is_digit.ensures ∙ c.if-is_digit.false in
    sym (skipped.same ∙ token_at_other_byte _ _ inside (skipped.stop inside) no_digit)
