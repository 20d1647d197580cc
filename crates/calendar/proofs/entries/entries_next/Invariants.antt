-- `entries::entries_next` meets its contract. The loop's invariant: so many entries are taken, this rules by them, and the others follow.
use Rattle.calendar.specs.Sections.{EntriesSoFar}
use Rattle.calendar.proofs.entries.entries_next.Given as goal

abbrev pub invariant-loop : goal.invariant-loop
invariant-loop l = EntriesSoFar l.count l.asked l.minute l.initial.words l.words l.free l.ruled l.counter
