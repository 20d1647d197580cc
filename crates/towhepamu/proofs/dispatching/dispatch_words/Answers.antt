use Rattle.std.proofs.Common.{◌≡◌, refl, ◌∙◌, arith, rules}
use Rattle.dispatcher.specs.Outcomes.{dispatch_outcome}
use Rattle.towhepamu.specs.FrontDispatchLaws.{front_is_dispatched}
use Rattle.towhepamu.proofs.dispatching.dispatch_words.Goals as goal

pub returns : goal.returns
returns c =
    let front = c.with_front.ensures in
    let answered : c.with_front.result ≡ dispatch_outcome c.args.words.now front.0.now c.args.core c.args.state c.args.ended = search rules in
    rw front.2 at answered ∙ front_is_dispatched _ _ _ refl _ _ _ _ (omega arith)
