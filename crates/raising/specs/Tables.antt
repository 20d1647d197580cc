-- The table of the search in rounds, of what is offered for a site.
use Rattle.std.specs.Prelude.{ℕ, ◌^◌, ◌≤◌, ◌<◌, Option, MatchOption}
use Rattle.assignment.specs.Assignment.{Options}
use Rattle.assignment.specs.Keys.{key_base}
use Rattle.assignment.specs.SearchTheorem.{BestAnswers}
use Rattle.assignment.specs.Values.{none}
use Rattle.assignment.specs.Words.{no_cost}
use Rattle.values.specs.Worths.{worth_of}
use Rattle.values.specs.declared.value.Worth.{Worth}
use Rattle.raising.specs.Rounds.{RoundFound}
use Rattle.raising.specs.TimedSites.{shape_of, site_options, SiteRaised, SetTried, SetsRaised, NearRaised}
use Rattle.raising.specs.declared.offer.Offer.{Offer}
use Rattle.raising.specs.declared.table.Table.{Table}

-- the table as the search in rounds keeps it
abbrev pub TableRaised : Offer → Table → Type 0
TableRaised offer table = SiteRaised offer.site offer.timings.now offer.cost.now table.costs table.keys table.left

-- a set was tried
abbrev pub TableTried : Offer → (before after : Table) → Type 0
TableTried offer before after =
    SetTried offer.site offer.timings.now offer.cost.now after.costs after.keys before.left after.left

-- so many of the sets that the cores of the plan with this key run were tried
abbrev pub PlanRaised : Offer → (key : ℕ) → (before after : Table) → (raised : ℕ) → Type 0
PlanRaised offer key before after raised =
    SetsRaised offer.site key offer.timings.now offer.cost.now after.costs after.keys before.left after.left offer.site.cores raised

-- sets were tried, or none was
abbrev pub PlansRaised : Offer → (before after : Table) → Type 0
PlansRaised offer before after =
    NearRaised offer.site offer.timings.now offer.cost.now after.costs after.keys before.left after.left

-- what partition and keeping find over the table, once each set owes the idle energy of a whole span once
abbrev pub RoundOf : Offer → Table → Worth → Type 0
RoundOf offer table = RoundFound (shape_of offer.site) offer.site.whole offer.refusal.now offer.must.now table.costs table.keys

-- told as a value, or as none
abbrev pub RoundTold : Offer → Table → Option Worth → Type 0
RoundTold offer table told =
    MatchOption told ((worth : Worth) × (no_cost ≤ worth.cost) × RoundOf offer table worth)
    (λ worth. (worth.cost < no_cost) × RoundOf offer table worth)

abbrev pub options_of : Offer → Options
options_of offer = site_options offer.site offer.timings.now offer.cost.now offer.refusal.now offer.must.now

-- the value and the key of the best plan
pub record BestWorth (offer : Offer) (worth : Worth) : Type 0 where
  pub real : worth.cost < no_cost
  pub key_bound : worth.key < key_base ^ offer.site.items
  pub best_answers : BestAnswers (options_of offer) (worth_of worth)

-- told so, or that there is none
abbrev pub BestTold : Offer → Option Worth → Type 0
BestTold offer told = MatchOption told (BestAnswers (options_of offer) none) (BestWorth offer)
