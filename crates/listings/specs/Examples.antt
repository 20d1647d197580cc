-- The paper's worked listings, one table about the definition.
use Rattle.std.specs.Prelude.{List, [], ◌∷◌, map, ◌≡◌, refl}
use Prim.Native.String.{String}
use Rattle.text.specs.Decimal.{decimal, digits_of}
use Rattle.instance.specs.Node.{span, span_from}
use Rattle.formats.specs.Formats.{times}
use Rattle.formats.specs.Taking.{between, take_word, take_tested, take_unless_ended, take_end}
use Rattle.instance.specs.SiteFile.{problem_of, site_file, setting_from, settings, level, last_after, levels, period, is_penalty, task, tasks}
use Rattle.instance.specs.SiteFile.{with_deadline, with_deadlines, is_deadline_count, deadline_section, deadlines}
use Rattle.text.specs.Text.{words_of, numbers, first_fault, faulty, begins, is_digit, is_blank, value_after}
use Rattle.laws.specs.Lists.{list_of, joined}
use Rattle.laws.specs.Multiples.{lcm}
use Rattle.laws.specs.Search.{first, every}
use Rattle.laws.specs.Sums.{sum}
use Rattle.plan_rules.specs.Plans.{is_must, bad_choice, choices_pass, fits, cores_fit, plan_passes}
use Rattle.plan_rules.specs.Quantities.{keeps, ticks, job_ticks, ticks_on, jobs, load_on, core_load}
use Rattle.prices.specs.Prices.{busy_energy, kept_count, is_awake, idle_ticks, core_energy, energy, penalty, cost, price_of}
use Rattle.edf.specs.Demand.{jobs_due, demand_at, meets_demand}
use Rattle.dispatch.specs.Rows.{due_at, after_release, earliest, chosen, after_run, step, dispatched, row}
use Rattle.plan_rules.specs.CoreOfPlan.{core_tasks}
use Rattle.tables.specs.Tables.{table_of, slot_at}
use Rattle.planner.specs.Planning.{choice_lists, is_allowed, better, first_cheapest, best_plan}
use Rattle.listing_lines.specs.Lines.{bytes, ended, line}
use Rattle.listing_lines.specs.ListingLines.{numbers_line, refusal_line, span_line, cost_line, kept_line, refused_line, task_line, core_line, plan_lines}
use Rattle.listings.specs.Listing.{listing_of}

-- a text, and what is printed for it
record Listed : Type 0 where
  text : String
  listing : String

abbrev listed : String → String → Listed
listed text listing = record { text = text; listing = listing }

abbrev worked : List Listed
worked =
    -- K1: task 2 refused
    listed
    "3 1 1 1\n5 150 80 400 170 600 400 800 900 1000 1600\n2 10 2400 5000 20 6000 3000\n"
    "span 20\ncost 2040 3000 5040\ntask 1 core 1 level 2 ticks 6\ntask 2 refused\ncore 1 1 1 1 1 1 1 0 0 0 0 1 1 1 1 1 1 0 0 0 0\n" ∷
    -- K2: the paper's listing, whole
    listed
    "3 1 1 1\n5 150 80 400 170 600 400 800 900 1000 1600\n2 10 2400 5000 20 6000 4294967295\n"
    "span 20\ncost 7200 0 7200\ntask 1 core 1 level 3 ticks 4\ntask 2 core 1 level 3 ticks 10\ncore 1 1 1 1 1 2 2 2 2 2 2 1 1 1 1 2 2 2 2 0 0\n" ∷
    -- K2 with idle power 50
    listed
    "4 1 1 1 50\n5 150 80 400 170 600 400 800 900 1000 1600\n2 10 2400 5000 20 6000 4294967295\n"
    "span 20\ncost 7300 0 7300\ntask 1 core 1 level 3 ticks 4\ntask 2 core 1 level 3 ticks 10\ncore 1 1 1 1 1 2 2 2 2 2 2 1 1 1 1 2 2 2 2 0 0\n" ∷
    -- (c): K2 with deadlines 4 and 10
    listed
    "3 1 1 1\n5 150 80 400 170 600 400 800 900 1000 1600\n2 10 2400 5000 20 6000 4294967295\n2 4 10\n"
    "span 20\ncost 12800 0 12800\ntask 1 core 1 level 3 ticks 4\ntask 2 core 1 level 5 ticks 6\ncore 1 1 1 1 1 2 2 2 2 2 2 1 1 1 1 0 0 0 0 0 0\n" ∷
    -- (g): K2 with start ticks 2
    listed
    "5 1 1 1 0 2\n5 150 80 400 170 600 400 800 900 1000 1600\n2 10 2400 5000 20 6000 4294967295\n"
    "span 20\ncost 2890 10000 12890\ntask 1 refused\ntask 2 core 1 level 2 ticks 17\ncore 1 2 2 2 2 2 2 2 2 2 2 2 2 2 2 2 2 2 0 0 0\n" ∷
    -- K6: no task, two cores
    listed "3 1 1 2\n5 150 80 400 170 600 400 800 900 1000 1600\n0\n" "span 1\ncost 0 0 0\ncore 1 0\ncore 2 0\n" ∷
    -- K8: refusal 5
    listed "3 1 1 1\n5 150 80 400 170 600 400 800 900 1000 1600\n1 10 10001 4294967295\n" "refused 5 0\n" ∷
    -- K11: refusal 4
    listed "3 1 1 1\n1 1 1\n2 4095 1 1 2 1 1\n" "refused 4 11\n" ∷
    -- another byte than a digit, a space or a line feed, and a list that ends early
    listed "3 1,1" "refused 1 3\n" ∷
    listed "" "refused 2 0\n" ∷ []

pub worked_listings : map (λ w. listing_of (bytes w.text)) worked ≡ map (λ w. bytes w.listing) worked
unfolding bytes ended line numbers_line refusal_line span_line cost_line kept_line refused_line task_line core_line plan_lines listing_of
    decimal digits_of words_of numbers first_fault faulty begins is_digit is_blank value_after problem_of site_file setting_from settings level last_after levels period
    is_penalty task tasks with_deadline with_deadlines is_deadline_count deadline_section deadlines
    times between take_word take_tested take_unless_ended take_end
    span span_from lcm first every list_of joined sum is_must bad_choice choices_pass
    jobs_due demand_at meets_demand fits cores_fit plan_passes
    keeps ticks job_ticks ticks_on jobs load_on core_load busy_energy kept_count is_awake idle_ticks core_energy energy penalty cost price_of due_at after_release earliest chosen after_run
    step dispatched row core_tasks table_of slot_at choice_lists is_allowed better first_cheapest best_plan
worked_listings = refl
