-- The rounds of the search, step by step: one core's set more, and the last round.
use Rattle.std.specs.Prelude.{ℕ, ◌+◌, ◌^◌, ◌≤◌, ◌<◌, ◌≡◌, Bool, List, length, get_or, Some, None}
use Rattle.std.proofs.Math.Path.{refl}
use Rattle.std.proofs.Common.{arith, below_more}
use Rattle.laws.specs.Lists.{onto}
use Rattle.assignment.specs.CoreTables.{pattern_worth}
use Rattle.assignment.specs.Keys.{key_base, digits}
use Rattle.assignment.specs.SearchTheorem.{BestAnswers}
use Rattle.assignment.specs.SetLaws.{set_number-below}
use Rattle.assignment.specs.Words.{no_cost, words_none, words_pair}
use Rattle.search.specs.Found.{BestFound}
use Rattle.search.specs.FoundLaws.{items_counted, told_is_best}
use Rattle.lagrangian.specs.TimedCores.{timed_options}
use Rattle.lagrangian.specs.Reached.{worth_on}
use Rattle.timed_sets.specs.Found.{LowerTimed}
use Rattle.values.specs.Worths.{worth_of}
use Rattle.values.specs.declared.value.Worth.{Worth}
use Rattle.raising.specs.ChargedOptions.{charged_once}
use Rattle.set_tables.specs.CoreSets.{core_set_number}
use Rattle.raising.specs.Rounds.{RefusalsOffered, RoundReady, RoundFound, found_key_below, round_ready, none_found, settled_found}
use Rattle.raising.specs.TimedSites.{shape_of, timed_of, core_of, site_options, SiteReady, SiteRaised, SetTried, SetsRaised}
use Rattle.raising.specs.declared.Site.{Site}

pub core_set_below : (n levels core key : ℕ) → core_set_number n levels core key < 2 ^ n
unfolding core_set_number
core_set_below n levels core key = set_number-below n _

module _ {site : Site} {timings cost costs keys left : List ℕ} (ready : SiteReady site timings cost)
    (table : SiteRaised site timings cost costs keys left) where
  pub lower_for_sets : LowerTimed (timed_of site) timings cost costs keys
  unfolding core_of timed_options pattern_worth worth_on
  lower_for_sets =
      record {
        few_items = ready.limits.items;
        small = table.small;
        lower = λ S of_items pattern keeps admits. table.lower S of_items pattern record { keeps = keeps; admitted = admits };
      }

pub nothing_raised : {site : Site} {key : ℕ} {timings cost costs keys left : List ℕ} →
    SiteRaised site timings cost costs keys left → SetsRaised site key timings cost costs keys left left 0 0
nothing_raised table =
    record {
      table = table;
      fewer = omega arith;
      same = λ none. refl;
      settled = λ none j h. absurd (omega arith);
    }

module _ {site : Site} {key : ℕ} {timings cost costs keys left₀ left : List ℕ} {k raised : ℕ}
    (so_far : SetsRaised site key timings cost costs keys left₀ left k raised) {x : ℕ}
    (is : x ≡ core_set_number site.items site.levels k key) where
  pub next_set_below : x < 2 ^ site.items
  next_set_below = rw is (core_set_below site.items site.levels k key)

  -- the next core's set is exact
  pub set_was_exact : get_or left x 0 ≡ 0 → SetsRaised site key timings cost costs keys left₀ left (k + 1) raised
  set_was_exact exact =
      record {
        table = so_far.table;
        fewer = so_far.fewer;
        same = so_far.same;
        settled = λ none. below_more _ k (so_far.settled none) (rw is at exact);
      }

  -- it may be tried, and was
  pub set_was_tried : {costs' keys' left' : List ℕ} → SetTried site timings cost costs' keys' left left' →
      SetsRaised site key timings cost costs' keys' left₀ left' (k + 1) (raised + 1)
  set_was_tried tried =
      record {
        table = tried.table;
        fewer = omega (arith, so_far.fewer, tried.fewer);
        same = λ none. absurd (omega arith);
        settled = λ none. absurd (omega arith);
      }

-- what a round says of the best plan

module _ {site : Site} {timings cost refusal : List ℕ} {must : List Bool} {costs keys left : List ℕ}
    (ready : SiteReady site timings cost) (offered : RefusalsOffered site.items refusal must)
    (table : SiteRaised site timings cost costs keys left) where
  same_levels : (core_of site timings cost).levels ≡ site.levels
  unfolding core_of timed_options
  same_levels = refl

  pub ready_for_round : RoundReady (shape_of site) site.whole refusal must costs keys
  ready_for_round = round_ready ready.limits offered same_levels ready.counted table

  module _ {worth : Worth} (found : RoundFound (shape_of site) site.whole refusal must costs keys worth) where
    pub key_is_plan : worth.cost < no_cost → worth.key < key_base ^ site.items
    key_is_plan = found_key_below ready_for_round found

    pub nothing_found : no_cost ≤ worth.cost → BestAnswers (site_options site timings cost refusal must) (worth_of worth)
    nothing_found = none_found ready.limits offered same_levels ready.counted table found

    -- where no set of the found plan was open, nothing was raised
    pub plan_settled : {costs' keys' left' : List ℕ} {raised : ℕ} →
        SetsRaised site worth.key timings cost costs' keys' left left' site.cores raised → raised ≡ 0 →
        worth.cost < no_cost → BestAnswers (site_options site timings cost refusal must) (worth_of worth)
    plan_settled sets none real =
        settled_found ready.limits offered same_levels ready.counted table found real
        (record { core = λ k h. rw (sets.same none) at (sets.settled none k h) })

-- and what is written

module _ (site : Site) (timings cost refusal : List ℕ) (must : List Bool) (worth : Worth)
    (answers : BestAnswers (site_options site timings cost refusal must) (worth_of worth)) where
  all_items : length (site_options site timings cost refusal must).items ≡ site.items
  unfolding charged_once
  all_items = items_counted refusal must site.items

  pub no_plan_told : (plan : List ℕ) → no_cost ≤ worth.cost → BestFound (site_options site timings cost refusal must) plan plan None
  no_plan_told plan dear =
      told_is_best site.items (site_options site timings cost refusal must) (worth_of worth) plan plan None all_items
      (rw (words_none worth.cost worth.key dear) (refl, refl)) answers

  pub plan_told : (before after : List ℕ) → worth.cost < no_cost → after ≡ onto (digits site.items worth.key) before →
      BestFound (site_options site timings cost refusal must) before after (Some worth.cost)
  plan_told before after real written =
      told_is_best site.items (site_options site timings cost refusal must) (worth_of worth) before after (Some worth.cost) all_items
      (rw (words_pair worth.cost worth.key real) (refl, written)) answers
