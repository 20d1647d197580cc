use borrow.Author.Rules.{rules}
use Rattle.timed_parts.proofs.servable.fewest_column.Goals as goal

pub returns : goal.returns
returns c =
    let filled = c.column_of.ensures in
    record { places = filled.places; fewest = λ i l. let one = filled.entries i l in search rules }
