use Rattle.formats.specs.WordLaws.{end_of_all, end_too_soon}
use Rattle.formats.proofs.reader.WordReader.end.Goals as goal

pub returns-then-self : goal.returns-then-self
returns-then-self c = rw (← c.self.view_is) (record { leaves = end_too_soon _ _ c.if-self.true })

pub returns : goal.returns
returns c = rw (← c.self.view_is) (record { leaves = end_of_all _ _ c.if-self.false })
