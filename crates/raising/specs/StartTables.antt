-- What is offered for a site, and the table that the rounds begin with.
use Rattle.std.specs.Prelude.{ℕ, ◌^◌, ◌≤◌, ◌<◌, ◌≡◌, Bool, List, length, get_or, replicate}
use Rattle.std.proofs.Common.{le_of_eq, le_trans, arith}
use Rattle.std.proofs.lemmas.List.{length-replicate, get_or-replicate}
use Rattle.assignment.specs.CoreTables.{Admitted}
use Rattle.assignment.specs.Limits.{most_cost}
use Rattle.assignment.specs.Sets.{set_number}
use Rattle.assignment.specs.SetLaws.{set_number-below}
use Rattle.core_tables.specs.AwakeCores.{size, surplus}
use Rattle.partition.specs.Tables.{most_sets, room_for_sets}
use Rattle.search.specs.Limits.{ShapeLimited}
use Rattle.lagrangian.specs.TimedItems.{TimedReady}
use Rattle.lagrangian.specs.TimedCores.{timed_options}
use Rattle.raising.specs.AdmittedCosts.{admitted_cost_at_most}
use Rattle.raising.specs.LowestTables.{LowestTable, lowest_small, lowest_keyed, lowest_lower, lowest_counted}
use Rattle.raising.specs.RaisedTables.{most_tries}
use Rattle.raising.specs.Rounds.{RefusalsOffered}
use Rattle.raising.specs.TimedSites.{shape_of, timed_of, core_of, SiteReady, SiteRaised}
use Rattle.raising.specs.declared.Site.{Site}

pub record SiteOffered (site : Site) (timings cost refusal : List ℕ) (must : List Bool) : Type 0 where
  pub limits : ShapeLimited (shape_of site)
  pub refusals : RefusalsOffered site.items refusal must
  pub some_level : 1 ≤ site.levels
  pub timed : TimedReady (timed_of site) timings cost
  pub whole_limited : site.whole ≤ most_cost
  -- what is taken off the cost of a pattern was counted in it
  pub counted : (T : List Bool) → length T ≡ site.items → (pattern : List ℕ) → Admitted (core_of site timings cost) T pattern →
      surplus site.whole (size T) ≤ (core_of site timings cost).core_cost pattern

pub site_ready : {site : Site} {timings cost refusal : List ℕ} {must : List Bool} → SiteOffered site timings cost refusal must →
    SiteReady site timings cost
unfolding core_of timed_options
site_ready o =
    record {
      limits = o.limits;
      some_level = o.some_level;
      timed = o.timed;
      whole_limited = o.whole_limited;
      counted =
          record {
            at_least = o.counted;
            at_most = λ T of_items pattern admitted. admitted_cost_at_most o.timed T of_items pattern admitted.keeps admitted.admitted;
          };
    }

pub start_raised : {site : Site} {timings cost costs keys : List ℕ} → SiteReady site timings cost →
    LowestTable site.items site.whole costs keys → SiteRaised site timings cost costs keys (replicate most_sets most_tries)
unfolding core_of timed_options
start_raised {site} ready table =
    let few = ready.limits.items in
    let limited = ready.whole_limited in
    record {
      small = lowest_small few limited table;
      keyed = lowest_keyed few limited table ready.some_level;
      lower = lowest_lower few limited table ready.counted;
      surplus_counted = λ x under real. lowest_counted few limited table x under;
      tries_for_all = rw (length-replicate most_sets most_tries) (room_for_sets few);
      few_tries = λ x under. le_of_eq (untried x under);
      least_where_settled = λ S of_items settled.
          let some = untried (set_number site.items S) (set_number-below site.items S) in
          absurd (omega arith);
    }
  where
    untried : (x : ℕ) → x < 2 ^ site.items → get_or (replicate most_sets most_tries) x 0 ≡ most_tries
    untried x under = get_or-replicate most_sets x most_tries 0 (le_trans under (room_for_sets ready.limits.items))
