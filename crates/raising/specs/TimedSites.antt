-- What the rounds of the search ask of a site, and what each of their steps leaves behind.
use Rattle.std.specs.Prelude.{ℕ, ◌+◌, ◌^◌, ◌≤◌, ◌<◌, ◌≡◌, ◌⊎◌, Bool, true, List, [], length, get_or}
use Rattle.assignment.specs.Assignment.{Options}
use Rattle.assignment.specs.Keys.{key_base}
use Rattle.assignment.specs.Limits.{most_cost, most_core_cost, most_items}
use Rattle.assignment.specs.Words.{no_cost}
use Rattle.knapsack.specs.Offered.{offers_of}
use Rattle.partition.specs.Moves.{WeightsBelow}
use Rattle.search.specs.Limits.{ShapeLimited}
use Rattle.search.specs.declared.Shape.{Shape}
use Rattle.lagrangian.specs.TimedItems.{TimedReady}
use Rattle.lagrangian.specs.TimedCores.{timed_options, timings_of}
use Rattle.lagrangian.specs.declared.Timed.{Timed}
use Rattle.values.specs.Items.{items_of}
use Rattle.values.specs.declared.value.Worth.{Worth}
use Rattle.raising.specs.ChargedOptions.{with_items, charged_once, CostsCounted}
use Rattle.set_tables.specs.CoreSets.{core_set_number}
use Rattle.raising.specs.RaisedTables.{most_tries, Raised, tries_left}
use Rattle.raising.specs.declared.Site.{Site}

abbrev pub shape_of : Site → Shape
shape_of site = record { items = site.items; cores = site.cores; levels = site.levels }

abbrev pub timed_of : Site → Timed
timed_of site = record { items = site.items; levels = site.levels; span = site.span }

-- one of its cores, in the costs of each item alone: cores, loads and refusals do not matter to it
unfoldable pub core_of : Site → (timings cost : List ℕ) → Options
core_of site timings cost =
    timed_options 1 site.levels site.span (timings_of timings site.items) (offers_of [] cost site.items) []

-- the plans to search: each core owes the idle energy of a whole span once
abbrev pub site_options : Site → (timings cost refusal : List ℕ) → List Bool → Options
site_options site timings cost refusal must =
    charged_once site.whole (with_items site.cores (items_of refusal must site.items) (core_of site timings cost))

-- within the limits
pub record SiteReady (site : Site) (timings cost : List ℕ) : Type 0 where
  pub limits : ShapeLimited (shape_of site)
  pub some_level : 1 ≤ site.levels
  pub timed : TimedReady (timed_of site) timings cost
  pub whole_limited : site.whole ≤ most_cost
  pub counted : CostsCounted site.whole site.items (core_of site timings cost)

-- the table as the search in rounds keeps it
abbrev pub SiteRaised : Site → (timings cost costs keys left : List ℕ) → Type 0
SiteRaised site timings cost = Raised (core_of site timings cost) site.whole site.items

-- the least key of each set of n items
pub record SetsWeighed (n : ℕ) (weights : List ℕ) : Type 0 where
  pub for_all : 2 ^ n ≤ length weights
  pub each : WeightsBelow n (2 ^ n) weights

-- what the limit of a search asks, of a set that may still be tried so often: its entry's cost, and the least key of its patterns
pub record LimitReady (n tries low key : ℕ) : Type 0 where
  pub few_items : n ≤ most_items
  pub few_tries : tries ≤ most_tries
  pub at_most_none : low ≤ no_cost
  pub digits : key < key_base ^ n

-- the limit of this cost and key, where a core may cost so much
pub record LimitAt (cost key : ℕ) (most : Worth) : Type 0 where
  pub at_most_none : most.cost ≤ no_cost
  pub real : most.cost < no_cost → (most.cost ≡ cost) × (most.key ≡ key) × (cost ≤ most_core_cost)
  pub no_key : no_cost ≤ most.cost → most.key ≡ 0

-- no limit, or one that is not below the entry, and not the last try's
pub record LimitOf (n tries low key : ℕ) (most : Worth) : Type 0 where
  pub at_most_none : most.cost ≤ no_cost
  pub digits : most.key < key_base ^ n
  pub cost : most.cost < no_cost → (low ≤ most.cost) × (most.cost ≤ most_core_cost)
  pub least_key : most.cost < no_cost → most.key ≡ key
  pub not_last : most.cost < no_cost → 1 < tries

-- how often a set may still be tried that was searched up to a limit: less often, and not at all only where keys were looked for and what was
-- found comes before the limit or there was none
pub record TriesAfter (keyed : Bool) (tries : ℕ) (most found : Worth) (after : ℕ) : Type 0 where
  pub fewer : after < tries
  pub looked_for_keys : after ≡ 0 → keyed ≡ true
  pub settled : after ≡ 0 → (no_cost ≤ most.cost) ⊎ ((found.cost < most.cost) ⊎ (found.key < most.key))

-- a set was tried
pub record SetTried (site : Site) (timings cost costs keys left₀ left : List ℕ) : Type 0 where
  pub table : SiteRaised site timings cost costs keys left
  pub fewer : tries_left site.items left < tries_left site.items left₀

-- so many of the sets that the first k cores of the plan with this key run were tried; with none nothing changed, and all are exact
pub record SetsRaised (site : Site) (key : ℕ) (timings cost costs keys left₀ left : List ℕ) (k raised : ℕ) : Type 0 where
  pub table : SiteRaised site timings cost costs keys left
  pub fewer : tries_left site.items left + raised ≤ tries_left site.items left₀
  pub same : raised ≡ 0 → left ≡ left₀
  pub settled : raised ≡ 0 → (j : ℕ) → j < k → get_or left (core_set_number site.items site.levels j key) 0 ≡ 0

-- sets were tried, or none was
pub record NearRaised (site : Site) (timings cost costs keys left₀ left : List ℕ) : Type 0 where
  pub table : SiteRaised site timings cost costs keys left
  pub not_more : tries_left site.items left ≤ tries_left site.items left₀
