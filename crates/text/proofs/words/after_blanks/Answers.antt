use Rattle.std.proofs.Common.{sym, ◌∙◌}
use Rattle.text.specs.TokenSteps.{token_after_blank}
use Rattle.text.proofs.words.after_blanks.Goals as goal

pub loop-i-preserved : goal.loop-i-preserved
loop-i-preserved c =
    let inside = c.loop-i-test.true in
    let blank = sym c.if-not-is_blank.ensures in
    c.loop-i.invariant ∙ token_after_blank _ _ inside blank
