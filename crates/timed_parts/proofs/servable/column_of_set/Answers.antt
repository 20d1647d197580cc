use borrow.Author.Rules.{rules}
use Rattle.timed_parts.proofs.servable.column_of_set.Goals as goal

pub returns : goal.returns
returns c =
    let filled = c.column_of.ensures in
    record { places = filled.places; at = λ i l. let one = filled.entries i l in search rules }
