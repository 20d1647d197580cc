-- `lower` stores what comes first, and leaves an entry that is not later.
use mathlib.Core.Path.{sym, ◌∙◌}
use borrow.Author.Rules.{rules}
use Rattle.assignment.specs.LowerLaws.{lowered_first, lowered_nothing}
use Rattle.values.specs.WorthLaws.{not_first, less_first, less_not_first}
use Rattle.values.proofs.value.Worth.lower.Goals as goal

pub returns-then-lt : goal.returns-then-lt
returns-then-lt c =
    let a = c.args in
    lowered_first a.s a.self.cost a.self.key a.costs.now a.keys.now (search rules) (search rules) (less_first (sym c.lt.ensures ∙ c.if-lt.true))

pub returns-else-lt : goal.returns-else-lt
returns-else-lt c =
    let a = c.args in
    lowered_nothing a.s a.self.cost a.self.key a.costs.now a.keys.now (not_first (less_not_first (sym c.lt.ensures ∙ c.if-lt.false)))
