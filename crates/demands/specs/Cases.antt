-- Document 01's section 'K1 to K13, to be proved', with the examples of document 02 (a) and (c): one table of cases, and one
-- statement about the definitions.
use Rattle.std.specs.Prelude.{ℕ, ◌≡◌, refl, List, [], ◌∷◌, ◌++◌, map, replicate, Result, Ok, Err}
use Rattle.ranges.specs.Limits.{may_not_be_refused}
use Rattle.instance.specs.Node.{Problem, task_count, span, span_from}
use Rattle.refusals.specs.Refusals.{Reading, number_of, place_of, room}
use Rattle.formats.specs.Formats.{times}
use Rattle.formats.specs.Taking.{between, take_word, take_tested, take_unless_ended, take_end}
use Rattle.instance.specs.SiteFile.{problem_of, site_file, setting_from, settings, level, last_after, levels, period, is_penalty, task, tasks}
use Rattle.instance.specs.SiteFile.{with_deadline, with_deadlines, is_deadline_count, deadline_section, deadlines}
use Rattle.text.specs.Text.{words_of, numbers, first_fault, faulty, begins, is_digit, is_blank, value_after}
use Rattle.refusals.specs.declared.Refusal.{Refusal}
use Rattle.laws.specs.Lists.{list_of, joined, onto}
use Rattle.laws.specs.Multiples.{lcm}
use Rattle.laws.specs.Search.{first, every}
use Rattle.laws.specs.Sums.{sum}
use Rattle.plan_rules.specs.Plans.{is_must, bad_choice, choices_pass, fits, cores_fit, plan_passes}
use Rattle.plan_rules.specs.Quantities.{keeps, ticks, job_ticks, ticks_on, jobs, load_on, core_load}
use Rattle.prices.specs.Prices.{busy_energy, kept_count, is_awake, idle_ticks, core_energy, energy, penalty, cost, price_of}
use Rattle.edf.specs.Demand.{jobs_due, demand_at, meets_demand}
use Rattle.dispatch.specs.Rows.{due_at, after_release, earliest, chosen, after_run, step, dispatched, row}
use Rattle.plan_rules.specs.CoreOfPlan.{core_tasks}
use Rattle.tables.specs.Tables.{table_size, table_of}
use Rattle.prices.specs.declared.amounts.Price.{Price}
use Rattle.planner.specs.Outcomes.{PlanOutcome, plan_outcome}
use Rattle.planner.specs.Planning.{choice_lists, is_allowed, better, first_cheapest, best_plan}

-- what the paper says of an instance in one case
pub data Claim : Type 0 where
  -- the choices and their cost
  plan : List ℕ → ℕ → Claim
  -- energy, penalty and cost
  price : ℕ → ℕ → ℕ → Claim
  table : List ℕ → Claim
  span_is : ℕ → Claim
  -- a refusal's number and its place
  refusal : ℕ → ℕ → Claim
  -- a text, and its words
  text : List ℕ → List ℕ → Claim

abbrev refusal_of : Refusal → Claim
refusal_of r = refusal (number_of r) (place_of r)

-- the claim of the same form that holds of an outcome
abbrev of_outcome : Result Price Refusal → (Price → Claim) → Claim
of_outcome (Ok amounts) form = form amounts
of_outcome (Err r) form = refusal_of r

abbrev of_text : List ℕ → Reading (List ℕ) → Claim
of_text bytes (Err r) = refusal_of r
of_text bytes (Ok words) = text bytes words

abbrev of_instance : Reading Problem → (Problem → Claim) → Claim
of_instance (Err r) form = refusal_of r
of_instance (Ok p) form = form p

-- planned into buffers that are just long enough
abbrev outcome_of : List ℕ → Problem → PlanOutcome
outcome_of words p = plan_outcome words (replicate (task_count p) 0) (replicate (table_size p) 0)

-- the claim of the same form that the definitions make of these words
abbrev pub defined : List ℕ → Claim → Claim
defined words (plan choices total) =
    of_instance (problem_of words) (λ p. let o = outcome_of words p in of_outcome o.answer (λ a. plan o.plan a.cost))
defined words (price e f total) =
    of_instance (problem_of words) (λ p. of_outcome (outcome_of words p).answer (λ a. price a.energy a.penalty a.cost))
defined words (table slots) =
    of_instance (problem_of words) (λ p. let o = outcome_of words p in of_outcome o.answer (λ a. table o.table))
defined words (span_is n) = of_instance (problem_of words) (λ p. span_is (span p))
defined words (refusal number place) =
    of_instance (problem_of words) (λ p. of_outcome (outcome_of words p).answer (λ a. plan [] a.cost))
defined words (text bytes ws) = of_text bytes (words_of bytes)

pub record Case : Type 0 where
  pub words : List ℕ
  pub claim : Claim

abbrev case : List ℕ → Claim → Case
case ws c = record { words = ws; claim = c }

-- "Levels as in K2 (the five XScale speeds and powers of document 000), weights 1 and 1, one core, unless said."
abbrev xscale : List ℕ
xscale = 5 ∷ 150 ∷ 80 ∷ 400 ∷ 170 ∷ 600 ∷ 400 ∷ 800 ∷ 900 ∷ 1000 ∷ 1600 ∷ []

abbrev pub site : ℕ → ℕ → ℕ → List ℕ → List ℕ
site energy_weight penalty_weight cores task_words =
    (3 ∷ energy_weight ∷ penalty_weight ∷ cores ∷ []) ++ xscale ++ task_words

abbrev pub usual : List ℕ → List ℕ
usual task_words = site 1 1 1 task_words

abbrev pub must : ℕ
must = may_not_be_refused

abbrev k1_tasks : List ℕ
k1_tasks = 2 ∷ 10 ∷ 2400 ∷ 5000 ∷ 20 ∷ 6000 ∷ 3000 ∷ []

abbrev k2_tasks : List ℕ
k2_tasks = 2 ∷ 10 ∷ 2400 ∷ 5000 ∷ 20 ∷ 6000 ∷ must ∷ []

abbrev k2 : List ℕ
k2 = usual k2_tasks

-- K2 with idle power 50, of document 02 (a)
abbrev k2_idle : List ℕ
k2_idle = (4 ∷ 1 ∷ 1 ∷ 1 ∷ 50 ∷ []) ++ xscale ++ k2_tasks

-- K2 with this idle power and these start ticks, of document 02 (g)
abbrev k2_start : ℕ → ℕ → List ℕ
k2_start idle start = (5 ∷ 1 ∷ 1 ∷ 1 ∷ idle ∷ start ∷ []) ++ xscale ++ k2_tasks

-- K2 with these deadlines, of document 02 (c)
abbrev k2_due : ℕ → ℕ → List ℕ
k2_due first second = k2 ++ (2 ∷ first ∷ second ∷ [])

-- (c) "Two tasks of 4 ticks and period 10" that may not be refused, one level of speed 100 and power 10, with these deadlines
abbrev two_due : ℕ → ℕ → List ℕ
two_due first second =
    3 ∷ 1 ∷ 1 ∷ 1 ∷ 1 ∷ 100 ∷ 10 ∷ 2 ∷ 10 ∷ 400 ∷ must ∷ 10 ∷ 400 ∷ must ∷ 2 ∷ first ∷ second ∷ []

-- "3 1 1 1", "5 150 80 400 170 600 400 800 900 1000 1600", "2 10 2400 5000 20 6000 4294967295", a line feed after each
abbrev k2_text : List ℕ
k2_text =
    51 ∷ 32 ∷ 49 ∷ 32 ∷ 49 ∷ 32 ∷ 49 ∷ 10 ∷
    53 ∷ 32 ∷ 49 ∷ 53 ∷ 48 ∷ 32 ∷ 56 ∷ 48 ∷ 32 ∷ 52 ∷ 48 ∷ 48 ∷ 32 ∷ 49 ∷ 55 ∷ 48 ∷ 32 ∷ 54 ∷ 48 ∷ 48 ∷ 32 ∷ 52 ∷ 48 ∷ 48 ∷
    32 ∷ 56 ∷ 48 ∷ 48 ∷ 32 ∷ 57 ∷ 48 ∷ 48 ∷ 32 ∷ 49 ∷ 48 ∷ 48 ∷ 48 ∷ 32 ∷ 49 ∷ 54 ∷ 48 ∷ 48 ∷ 10 ∷
    50 ∷ 32 ∷ 49 ∷ 48 ∷ 32 ∷ 50 ∷ 52 ∷ 48 ∷ 48 ∷ 32 ∷ 53 ∷ 48 ∷ 48 ∷ 48 ∷ 32 ∷ 50 ∷ 48 ∷ 32 ∷ 54 ∷ 48 ∷ 48 ∷ 48 ∷ 32 ∷
    52 ∷ 50 ∷ 57 ∷ 52 ∷ 57 ∷ 54 ∷ 55 ∷ 50 ∷ 57 ∷ 53 ∷ 10 ∷ []

abbrev pub cases : List Case
cases =
    -- K1: K2 with 3,000 as task 2's penalty: choices 2, 0; cost 5,040
    case (usual k1_tasks) (plan (2 ∷ 0 ∷ []) 5040) ∷
    -- K2: its text, choices 3, 3, the listing's bill and row
    case k2 (text k2_text k2) ∷
    case k2 (plan (3 ∷ 3 ∷ []) 7200) ∷
    case k2 (price 7200 0 7200) ∷
    case k2 (span_is 20) ∷
    case k2 (table (1 ∷ 1 ∷ 1 ∷ 1 ∷ 2 ∷ 2 ∷ 2 ∷ 2 ∷ 2 ∷ 2 ∷ 1 ∷ 1 ∷ 1 ∷ 1 ∷ 2 ∷ 2 ∷ 2 ∷ 2 ∷ 0 ∷ 0 ∷ [])) ∷
    -- K3: K1 on two cores: choices 2, 7; cost 4,590
    case (site 1 1 2 k1_tasks) (plan (2 ∷ 7 ∷ []) 4590) ∷
    -- K4: one task, period 10, cycles 2,400, penalty 1,020: choice 0, cost 1,020
    case (usual (1 ∷ 10 ∷ 2400 ∷ 1020 ∷ [])) (plan (0 ∷ []) 1020) ∷
    -- K5: the same, penalty 1,021: choice 2, cost 1,020
    case (usual (1 ∷ 10 ∷ 2400 ∷ 1021 ∷ [])) (plan (2 ∷ []) 1020) ∷
    -- K6: no task, two cores: span 1, cost 0, table 0 0
    case (site 1 1 2 (0 ∷ [])) (span_is 1) ∷
    case (site 1 1 2 (0 ∷ [])) (plan [] 0) ∷
    case (site 1 1 2 (0 ∷ [])) (table (0 ∷ 0 ∷ [])) ∷
    -- K7: one must task, period 10, cycles 10,000: choice 5, cost 16,000
    case (usual (1 ∷ 10 ∷ 10000 ∷ must ∷ [])) (plan (5 ∷ []) 16000) ∷
    -- K8: cycles 10,001: refusal 5, place 0
    case (usual (1 ∷ 10 ∷ 10001 ∷ must ∷ [])) (refusal 5 0) ∷
    -- K9: two must tasks, period 2, cycles 1,000: choices 5, 5; cost 3,200; row 1 2
    case (usual (2 ∷ 2 ∷ 1000 ∷ must ∷ 2 ∷ 1000 ∷ must ∷ [])) (plan (5 ∷ 5 ∷ []) 3200) ∷
    case (usual (2 ∷ 2 ∷ 1000 ∷ must ∷ 2 ∷ 1000 ∷ must ∷ [])) (table (1 ∷ 2 ∷ [])) ∷
    -- K10: K9 with 1,001 cycles for the second: refusal 5
    case (usual (2 ∷ 2 ∷ 1000 ∷ must ∷ 2 ∷ 1001 ∷ must ∷ [])) (refusal 5 0) ∷
    -- K11: one level (1, 1), periods 4,095 and 2: refusal 4, place 11
    case (3 ∷ 1 ∷ 1 ∷ 1 ∷ 1 ∷ 1 ∷ 1 ∷ 2 ∷ 4095 ∷ 1 ∷ 1 ∷ 2 ∷ 1 ∷ 1 ∷ []) (refusal 4 11) ∷
    -- K12: periods 64 and 4,096: span 4,096
    case (usual (2 ∷ 64 ∷ 1 ∷ 1 ∷ 4096 ∷ 1 ∷ 1 ∷ [])) (span_is 4096) ∷
    -- K13: K1 with weights 2 and 8: choices 3, 3; cost 14,400
    case (site 2 8 1 k1_tasks) (plan (3 ∷ 3 ∷ []) 14400) ∷
    -- (a): "K2 with idle power 50 costs 7,300, same choices."
    case k2_idle (plan (3 ∷ 3 ∷ []) 7300) ∷
    case k2_idle (price 7300 0 7300) ∷
    -- (c): "Two tasks of 4 ticks and period 10, deadlines 4 and 7, do not fit; 4 and 8 do."
    case (two_due 4 7) (refusal 5 0) ∷
    case (two_due 4 8) (plan (1 ∷ 1 ∷ []) 80) ∷
    case (two_due 4 8) (table (1 ∷ 1 ∷ 1 ∷ 1 ∷ 2 ∷ 2 ∷ 2 ∷ 2 ∷ 0 ∷ 0 ∷ [])) ∷
    -- (c): K2 with deadlines 4 and 10
    case (k2_due 4 10) (plan (3 ∷ 5 ∷ []) 12800) ∷
    case (k2_due 4 10) (table (1 ∷ 1 ∷ 1 ∷ 1 ∷ 2 ∷ 2 ∷ 2 ∷ 2 ∷ 2 ∷ 2 ∷ 1 ∷ 1 ∷ 1 ∷ 1 ∷ 0 ∷ 0 ∷ 0 ∷ 0 ∷ 0 ∷ 0 ∷ [])) ∷
    -- (g): K2 with start ticks 2; with idle power 50 and start ticks 1; with 1,001
    case (k2_start 0 2) (plan (0 ∷ 2 ∷ []) 12890) ∷
    case (k2_start 0 2) (price 2890 10000 12890) ∷
    case (k2_start 50 1) (plan (4 ∷ 3 ∷ []) 11650) ∷
    case (k2_start 50 1) (table (1 ∷ 1 ∷ 1 ∷ 1 ∷ 2 ∷ 2 ∷ 2 ∷ 2 ∷ 2 ∷ 2 ∷ 1 ∷ 1 ∷ 1 ∷ 1 ∷ 2 ∷ 2 ∷ 2 ∷ 2 ∷ 2 ∷ 0 ∷ [])) ∷
    case (k2_start 0 1001) (refusal 3 5) ∷
    []

pub K1-to-K13 : map (λ c. defined c.words c.claim) cases ≡ map (λ c. c.claim) cases
unfolding words_of numbers first_fault faulty begins is_digit is_blank value_after problem_of site_file setting_from settings level last_after levels period
    is_penalty task tasks with_deadline with_deadlines is_deadline_count deadline_section deadlines
    times between take_word take_tested take_unless_ended take_end
    span span_from lcm first every list_of joined onto sum room is_must bad_choice choices_pass
    jobs_due demand_at meets_demand fits cores_fit plan_passes
    keeps ticks job_ticks ticks_on jobs load_on core_load busy_energy kept_count is_awake idle_ticks core_energy energy penalty cost price_of due_at after_release earliest chosen after_run
    step dispatched row core_tasks table_of plan_outcome choice_lists is_allowed better first_cheapest best_plan
K1-to-K13 = refl
