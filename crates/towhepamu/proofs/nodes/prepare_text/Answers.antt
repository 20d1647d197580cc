use Rattle.std.proofs.Common.{rules}
use Rattle.towhepamu.specs.PreparedNodes.{reading_prepares}
use Rattle.towhepamu.proofs.nodes.prepare_text.Goals as goal

pub returns : goal.returns
returns c =
    let lent = c.with_words.ensures in reading_prepares _ _ _ _ lent.1.read (search rules)
