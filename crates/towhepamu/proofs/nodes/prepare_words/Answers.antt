use Rattle.std.proofs.Common.{refl, arith, rules}
use Rattle.dispatcher.specs.Preparing.{Prepares}
use Rattle.towhepamu.specs.FrontDispatchLaws.{front_is_prepared}
use Rattle.towhepamu.proofs.nodes.prepare_words.Goals as goal

pub returns : goal.returns
returns c =
    let front = c.with_front.ensures in
    let prepares : Prepares c.args.words.now front.0.now c.args.core c.with_front.result = search rules in
    front_is_prepared _ _ _ refl _ _ _ (omega arith) (rw front.2 at prepares)
