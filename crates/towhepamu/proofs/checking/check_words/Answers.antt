use Rattle.std.proofs.Common.{◌≡◌, refl, ◌∙◌, arith, rules}
use Rattle.checks.specs.Outcomes.{check_outcome}
use Rattle.towhepamu.specs.FrontPlanLaws.{check_outcome-of_front}
use Rattle.towhepamu.proofs.checking.check_words.Goals as goal

pub returns : goal.returns
returns c =
    let front = c.with_front.ensures in
    let answered : c.with_front.result ≡ check_outcome c.args.words.now front.0.now c.args.table.now = search rules in
    rw front.2 at answered ∙ check_outcome-of_front _ _ _ refl _ _ (omega arith)
