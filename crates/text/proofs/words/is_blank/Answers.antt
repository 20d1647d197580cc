-- `text::words::is_blank` meets its contract.
use borrow.Author.Tests.{eq-eqb, ne_eqb}
use Rattle.text.specs.Text.{is_blank}
use Rattle.text.proofs.words.is_blank.Goals as goal

pub returns-then-b-eq32 : goal.returns-then-b-eq32
unfolding is_blank
returns-then-b-eq32 c = rw (eq-eqb c.args.b 32 c.if-b-eq32.true)

pub returns-else-b-eq32 : goal.returns-else-b-eq32
unfolding is_blank
returns-else-b-eq32 c = rw (ne_eqb c.args.b 32 c.if-b-eq32.false)
