-- A search of one set, when what it reads may be relied on, and what is said of its nodes.
use Rattle.std.specs.Prelude.{ℕ, Bool, List}
use Rattle.lagrangian.specs.PriceColumns.{most_ticks}
use Rattle.lagrangian.specs.TimedItems.{TimedReady}
use Rattle.timed_parts.specs.DemandRows.{DemandRows}
use Rattle.timed_parts.specs.Nodes.{NothingBefore, Stands}
use Rattle.timed_parts.specs.declared.Node.{Node}
use Rattle.values.specs.declared.value.Worth.{Worth}
use Rattle.timed_sets.specs.Exchange.{Partners}
use Rattle.timed_sets.specs.Found.{FoundFrom}
use Rattle.timed_sets.specs.PartnerColumns.{numbers_of}
use Rattle.timed_sets.specs.SearchBounds.{BoundsHold}
use Rattle.timed_sets.specs.declared.search.Search.{Search}

-- timings and costs are those of the items, the bounds hold, and rows and partners are theirs
pub record SearchReady (search : Search) : Type 0 where
  pub timed_ready : TimedReady search.bounded.timed search.timings.now search.cost.now
  pub bounds_hold : BoundsHold search.bounded search.timings.now search.cost.now search.lowcosts.now search.lowkeys.now
  pub demand_rows : DemandRows search.bounded.timed search.timings.now most_ticks search.rows.now
  pub partners : Partners search.bounded.timed search.timings.now search.cost.now search.bounded.timed.items (numbers_of search.partners)

-- a node holds the front q of a pattern, with the flags T of the items after it
abbrev pub StandsIn : Search → Node → List ℕ → List Bool → Type 0
StandsIn search = Stands search.bounded.timed search.timings.now search.cost.now

-- nothing that is reached from a node comes before the best so far
abbrev pub NothingBeforeIn : Search → Node → List ℕ → List Bool → Worth → Type 0
NothingBeforeIn search = NothingBefore search.bounded.timed search.timings.now search.cost.now

-- the least of the best so far and of what is reached from a node in order
abbrev pub FoundIn : Search → Node → List ℕ → List Bool → (best r : Worth) → Type 0
FoundIn search = FoundFrom search.bounded.timed search.timings.now search.cost.now (numbers_of search.partners)
