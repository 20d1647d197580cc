-- The best plan under deadlines: what is offered to the search in rounds, and that its options are the problem's.
use Rattle.std.specs.Prelude.{ℕ, ◌+◌, ◌*◌, ◌/◌, ◌≤◌, ◌<◌, Bool, List, ◌≡◌, Option, Some, None}
use Rattle.std.proofs.Math.Path.{refl, sym, ap}
use Rattle.std.proofs.Common.{subst, ◌∙◌, le_trans, mul-le-mul_left, div-mul-le_self, arith}
use Rattle.std.proofs.Math.ListN.{length}
use Rattle.instance.specs.Held.{Sound, problem_in, held_levelcount, held_span, held_taskcount}
use Rattle.instance.specs.declared.Instance.{Instance}
use Rattle.plan_rules.specs.HeldPlans.{held_cores}
use Rattle.instance.specs.Node.{Problem, level_count, task_count, span}
use Rattle.instance.specs.Valid.{Valid}
use Rattle.plan_rules.specs.FitLaws.{load_of_fitting_core}
use Rattle.prices.specs.Prices.{core_energy}
use Rattle.assignment.specs.AlikeLaws.{Alike, allowed_alike, alike_sym, best_alike, cost_alike}
use Rattle.assignment.specs.Assignment.{Options}
use Rattle.assignment.specs.CoreTables.{Admitted}
use Rattle.assignment.specs.KeepingLaws.{kept_items_lem}
use Rattle.assignment.specs.Limits.{most_cost}
use Rattle.knapsack.specs.Offered.{entry_of, offers_of}
use Rattle.core_tables.specs.AwakeCores.{size, surplus}
use Rattle.core_tables.specs.AwakeLaws.{core_cost_lem}
use Rattle.raising.specs.ChargedOptions.{charged_once}
use Rattle.raising.specs.StartTables.{SiteOffered}
use Rattle.timed_sets.specs.SetTheorem.{loads_do_not_matter}
use Rattle.raising.specs.TimedSites.{core_of, site_options}
use Rattle.raising.specs.declared.Site.{Site}
use Rattle.search.specs.Found.{BestFound}
use Rattle.lagrangian.specs.TimedCores.{timed_options, timing_at, timing_width}
use Rattle.planner.specs.BestChoiceLaws.{Chosen, found_is_chosen}
use Rattle.planner.specs.OfferedBounds.{idle_span_at_most, offered_affordable, offered_refusal_at_most}
use Rattle.planner.specs.OfferedLaws.{awake_cost, offered_alone, offered_items, offers_beside_items, tasks_load}
use Rattle.offers.specs.OfferedOptions.{OptionsOffered, offered_level}
use Rattle.planner.specs.OptionsLaws.{item_count}
use Rattle.offers.specs.OptionsOf.{idle_cost, jobs_of, load_at, offer_of, offers_in, options_of}
use Rattle.planner.specs.TimedLaws.{problem_timed, period_is, ticks_are, timed_fits}
use Rattle.offers.specs.TimedOptions.{TimingsOffered}

abbrev pub site_of : Problem → Site
site_of p = record { items = task_count p; cores = p.cores; levels = level_count p; span = span p; whole = idle_cost p * span p }

found_alike : {o o' : Options} → Alike o o' → (before after : List ℕ) (r : Option ℕ) → BestFound o before after r → BestFound o' before after r
found_alike alike before after (Some cost) best =
    record {
      plan = best.plan;
      is_best = best_alike alike best.is_best;
      costs = sym (cost_alike alike best.is_best.allowed) ∙ best.costs;
      written = best.written;
    }
found_alike alike before after None (none, unchanged) = (λ plan allowed. none plan (allowed_alike (alike_sym alike) allowed), unchanged)

module _ {p : Problem} {load cost refusal timings : List ℕ} {must : List Bool} (v : Valid p)
    (o : OptionsOffered p (task_count p) load cost refusal must) (t : TimingsOffered p (task_count p * timing_width) timings) where
  -- costs alone of an admitted pattern
  admitted_cost : {T : List Bool} {pattern : List ℕ} → length T ≡ task_count p → Admitted (core_of (site_of p) timings cost) T pattern →
      (core_of (site_of p) timings cost).core_cost pattern ≡ surplus (idle_cost p * span p) (size T) + p.weights.energy * core_energy p pattern 0
  unfolding core_of timed_options
  admitted_cost {T} {pattern} of_items admitted =
      let keeps = admitted.keeps in
      let within = rw (sym (tasks_load p keeps of_items)) at (load_of_fitting_core p v pattern 0 (sym (timed_fits t v keeps) ∙ admitted.admitted)) in
      let alone = core_cost_lem (offers_in p) (offers_of load cost (task_count p)) (offered_alone v o.levels) (of_items ∙ sym (offers_beside_items p ∙ item_count p)) keeps within in
      rw (sym (loads_do_not_matter load cost (task_count p) pattern)) (omega (arith, alone, awake_cost p keeps of_items))

  timed_load : (i l : ℕ) → i < task_count p → l < level_count p → entry_of load i l ≡ span p / (timing_at timings i).period * (timing_at timings i).ticks l
  unfolding offer_of load_at jobs_of
  timed_load i l h k =
      (offered_level v.level_count_bound.at_most o.levels i l h k).same_load
      ∙ rw (period_is t i h, ticks_are t i l v.level_count_bound.at_most h k) refl

  -- a job within its window, once a period, is within the span
  cheap_in_window : (i l : ℕ) → i < task_count p → l < level_count p → (timing_at timings i).ticks l ≤ (timing_at timings i).window →
      entry_of cost i l ≤ most_cost
  cheap_in_window i l h k in_window =
      let period = (timing_at timings i).period in
      let in_period = le_trans in_window ((problem_timed t v).item i h).window_within_period in
      (offered_affordable v o.levels).cheap i h l k
      (rw (timed_load i l h k) (le_trans (mul-le-mul_left (span p / period) in_period) (div-mul-le_self (span p) period)))

  pub site_offered : SiteOffered (site_of p) timings cost refusal must
  site_offered =
      record {
        limits =
            record {
              items = v.task_count_bound;
              some_core = v.cores.at_least;
              cores = v.cores.at_most;
              levels = v.level_count_bound.at_most;
            };
        refusals =
            record {
              refusals_for_all = omega (arith, o.refusal_length, v.task_count_bound);
              musts_for_all = omega (arith, o.must_length, v.task_count_bound);
              refusals_limited = offered_refusal_at_most v o;
            };
        some_level = v.level_count_bound.at_least;
        timed =
            record {
              timed_items = problem_timed t v;
              costs_for_all = (offered_affordable v o.levels).costs_for_all;
              cheap = cheap_in_window;
            };
        whole_limited = idle_span_at_most v;
        counted = λ T of_items pattern admitted. omega (arith, admitted_cost of_items admitted);
      }

  timed_alike : Alike (site_options (site_of p) timings cost refusal must) (options_of p)
  unfolding charged_once core_of timed_options options_of
  timed_alike =
      record {
        same_cores = refl;
        same_levels = refl;
        same_items = offered_items o;
        same_admits = λ T of_items pattern keeps. timed_fits t v keeps;
        same_cost = λ T of_items pattern admitted.
            let beside = of_items ∙ ap length (offered_items o) ∙ item_count p in
            let on_this_core : Admitted (core_of (site_of p) timings cost) T pattern = record { keeps = admitted.keeps; admitted = admitted.admitted } in
            rw (kept_items_lem admitted.keeps) (omega (arith, admitted_cost beside on_this_core));
      }

  pub found_in_time : {before after : List ℕ} {r : Option ℕ} → BestFound (site_options (site_of p) timings cost refusal must) before after r →
      Chosen p before after r
  found_in_time {before} {after} {r} found = found_is_chosen p before after r (found_alike timed_alike before after r found)

-- as code holds it
abbrev site_in : Instance → Site
site_in inst =
    record {
      items = inst.taskcount;
      cores = inst.cores;
      levels = inst.levelcount;
      span = inst.span;
      whole = idle_cost (problem_in inst) * span (problem_in inst);
    }

module _ (inst : Instance) (s : Sound inst) where
  held_site : site_in inst ≡ site_of (problem_in inst)
  held_site = λ i.
      record {
        items = held_taskcount inst s i;
        cores = held_cores inst s i;
        levels = held_levelcount inst s i;
        span = held_span inst s i;
        whole = idle_cost (problem_in inst) * span (problem_in inst);
      }

  module _ {load cost refusal timings : List ℕ} {must : List Bool}
      (o : OptionsOffered (problem_in inst) (task_count (problem_in inst)) load cost refusal must)
      (t : TimingsOffered (problem_in inst) (task_count (problem_in inst) * timing_width) timings) {whole : ℕ}
      (is : whole ≡ idle_cost (problem_in inst) * span (problem_in inst)) where
    abbrev pub site_with : Site
    site_with = record { items = inst.taskcount; cores = inst.cores; levels = inst.levelcount; span = inst.span; whole = whole }

    same_site : site_with ≡ site_of (problem_in inst)
    same_site = (λ i. record { items = inst.taskcount; cores = inst.cores; levels = inst.levelcount; span = inst.span; whole = is i }) ∙ held_site

    pub held_site_offered : SiteOffered site_with timings cost refusal must
    held_site_offered = rw same_site (site_offered s.valid o t)

    pub held_found_in_time : {before after : List ℕ} {r : Option ℕ} → BestFound (site_options site_with timings cost refusal must) before after r →
        Chosen (problem_in inst) before after r
    held_found_in_time {before} {after} {r} found =
        found_in_time s.valid o t (subst (λ (site : Site). BestFound (site_options site timings cost refusal must) before after r) same_site found)
