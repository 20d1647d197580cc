use Rattle.std.proofs.Common.{◌+◌, arith}
use Rattle.std.proofs.lemmas.List.Edits.{length-between, get_or-between}
use Rattle.partition.proofs.splits.Split.has_no_split.Goals as goal

pub returns-else-are_none : goal.returns-else-are_none
returns-else-are_none c =
    let r = c.args.self.r in
    let end = r + c.args.self.size in
    let rests = c.args.parts.now.rests.now in
    let long = length-between rests r end c.requires.rests_long in
    λ e. record {
      none = λ x y a b.
          let none = c.are_none-else-are_none.ensures.0 e y (omega (arith, long)) in
          omega (arith, none, get_or-between rests r end y 0 (omega arith));
    }
