-- What is promised of the calls that are given text: reading, planning, the check, the reckoning of sleeps, dispatching, preparing a core
-- for it, the listing and asking a calendar from C, and what is printed. "In any other call that is given text, 1 comes before all the rest."
use Rattle.std.specs.Prelude.{ℕ, Bool, cond, List, [], ◌∷◌, ◌↔◌, ◌≡◌, length, Result, Ok, Err}
use Rattle.refusals.specs.Endings.{lent, Ends, read_then, needed_for}
use Rattle.instance.specs.Node.{Problem, task_count}
use Rattle.refusals.specs.Refusals.{Answer, answer, answer_of, number_of, place_of, room, ◌and_then◌, Verdict, accepted, verdict_of}
use Rattle.instance.specs.SiteFile.{problem_of}
use Rattle.refusals.specs.declared.Refusal.{Refusal}
use Rattle.refusals.specs.declared.Refusal.TheVariants.{NoSuchQuestion}
use Rattle.text.specs.Text.{words_of}
use Rattle.calendar.specs.Calendars.{calendar_of}
use Rattle.calendar.specs.Hours.{is_question}
use Rattle.calendar.specs.declared.Date.{Date}
use Rattle.calendar.specs.declared.PlanDays.{PlanDays}
use Rattle.checks.specs.Checks.{slots_pass, jobs_pass}
use Rattle.plan_rules.specs.Plans.{choices_pass}
use Rattle.prices.specs.Prices.{price_of}
use Rattle.prices.specs.declared.amounts.Price.{Price}
use Rattle.tables.specs.Tables.{table_of, table_size}
use Rattle.planner.specs.Endings.{plan_found}
use Rattle.planner.specs.Planned.{NoDrawing, BestDrawing}
use Rattle.planner.specs.Planning.{best_plan}
use Rattle.sleep.specs.Outcomes.{sleep_tests}
use Rattle.dispatcher.specs.Outcomes.{DispatchEnds, dispatch_tests, preparing_tests}
use Rattle.dispatcher.specs.Preparing.{CoreTickEnds, core_outcome}
use Rattle.dispatcher.specs.States.{fresh_state}
use Rattle.dispatcher.specs.declared.DispatchState.{DispatchState}
use Rattle.dispatcher.specs.declared.Dispatched.{Dispatched}
use Rattle.answers.specs.Answers.{site_of, planned_of, checked_of, listed_of, ruled_of}
use Rattle.answers.specs.declared.Checked.{Checked}
use Rattle.answers.specs.declared.Listed.{Listed}
use Rattle.answers.specs.declared.Planned.{Planned}
use Rattle.answers.specs.declared.Ruled.{Ruled}
use Rattle.answers.specs.declared.Site.{Site}
use Rattle.answers.specs.declared.TaskToRun.{TaskToRun}
use Rattle.towhepamu.specs.CallOutcomes.{text_dispatch_outcome}
use Rattle.towhepamu.specs.declared.nodes.PreparedNode.{PreparedNode}
use Rattle.listing_lines.specs.ListingLines.{refusal_line, plan_lines}
use Rattle.listings.specs.Listing.{most_listing, listing_of}

-- the text is one of the instance p
pub record WritesProblem (text : List ℕ) (p : Problem) : Type 0 where
  pub words : List ℕ
  pub words_of_text : words_of text ≡ Ok words
  pub problem_of_words : problem_of words ≡ Ok p

-- tests of the instance that a text is: those of the text first, then those of its words
abbrev pub text_then : List ℕ → (Problem → Verdict) → Verdict
text_then text tests = read_then (words_of text) (λ words. read_then (problem_of words) tests)

-- what a result needs of a buffer, where the text is that of an instance
abbrev pub needed_for_text : (Problem → ℕ) → List ℕ → ℕ
needed_for_text size text = needed_for (λ words. needed_for size (problem_of words)) (words_of text)

-- 1; 2, 3, 4
abbrev pub TextReadingEnds : List ℕ → Verdict → Type 0
TextReadingEnds text = Ends (text_then text (λ p. accepted)) (1 ∷ 2 ∷ 3 ∷ 4 ∷ []) []

-- 1; 2, 3, 4; then 6, the plan's before the table's; then 5
abbrev pub TextPlanningEnds : List ℕ → List ℕ → List ℕ → Result Price Refusal → List ℕ → List ℕ → Type 0
TextPlanningEnds text plan table given plan_after table_after =
    Ends
    (text_then text (λ p. (room (task_count p) plan and_then room (table_size p) table) and_then plan_found (best_plan p)))
    (1 ∷ 2 ∷ 3 ∷ 4 ∷ 6 ∷ 5 ∷ [])
    (lent (needed_for_text task_count text) plan plan_after ∷ lent (needed_for_text table_size text) table table_after ∷ [])
    (verdict_of given)

-- 1; 2, 3, 4; then 7 and 9
abbrev pub TextSlotCheckingEnds : List ℕ → List ℕ → List ℕ → Verdict → Type 0
TextSlotCheckingEnds text plan table =
    Ends (text_then text (λ p. choices_pass p plan and_then slots_pass p plan table)) (1 ∷ 2 ∷ 3 ∷ 4 ∷ 7 ∷ 9 ∷ []) []

-- 1; 2, 3, 4; then 7, 9 and 10
abbrev pub TextCheckingEnds : List ℕ → List ℕ → List ℕ → Verdict → Type 0
TextCheckingEnds text plan table =
    Ends
    (text_then text (λ p. choices_pass p plan and_then slots_pass p plan table and_then jobs_pass p plan table))
    (1 ∷ 2 ∷ 3 ∷ 4 ∷ 7 ∷ 9 ∷ 10 ∷ [])
    []

-- 1; 2, 3, 4; then 11; then 6, the energies' before the sleeps'; then 7, 9 and 10
abbrev pub TextSleepingEnds : (text plan table : List ℕ) → (energy time : ℕ) → (energies sleeps : List ℕ) →
    Verdict → (energies_after sleeps_after : List ℕ) → Type 0
TextSleepingEnds text plan table energy time energies sleeps given energies_after sleeps_after =
    let cores = needed_for_text (λ p. p.cores) text in
    Ends
    (text_then text (λ p. sleep_tests p plan table energy time energies sleeps))
    (1 ∷ 2 ∷ 3 ∷ 4 ∷ 11 ∷ 6 ∷ 7 ∷ 9 ∷ 10 ∷ [])
    (lent cores energies energies_after ∷ lent cores sleeps sleeps_after ∷ [])
    given

-- 1; 2, 3, 4; then 7 and 8; then 12; then 13
abbrev pub TextDispatchingEnds : (text plan : List ℕ) → ℕ → DispatchState → Bool → Dispatched → Type 0
TextDispatchingEnds text plan core s ended =
    DispatchEnds (text_then text (λ p. dispatch_tests p plan core s ended)) (1 ∷ 2 ∷ 3 ∷ 4 ∷ 7 ∷ 8 ∷ 12 ∷ 13 ∷ []) s

-- the number and the place of its verdict, and the task to run
abbrev pub dispatched_numbers : Dispatched → TaskToRun
dispatched_numbers d = record { refusal = (answer_of d.verdict).number; place = (answer_of d.verdict).place; task = d.task }

-- 1; 2, 3, 4; then 7 and 8; then 12 of the core. A refusal leaves the node as it was lent, and an accepted core begins with a fresh
-- start.
pub record NodePreparingEnds (text plan : List ℕ) (core : ℕ) (before : PreparedNode) (answer : Checked) (after : PreparedNode) : Type 0 where
  pub verdict : Verdict
  pub as_tested : Ends (text_then text (λ p. preparing_tests p plan core)) (1 ∷ 2 ∷ 3 ∷ 4 ∷ 7 ∷ 8 ∷ 12 ∷ []) [] verdict
  pub same_answer : answer ≡ checked_of verdict
  pub refused_as_lent : (r : Refusal) → verdict ≡ Err r → after ≡ before
  pub fresh_start : verdict ≡ accepted → after.state ≡ fresh_state
  -- a tick over it is the call for this text, plan and core
  pub ticks_as_dispatched : verdict ≡ accepted → (s : DispatchState) (ended : Bool) →
      core_outcome after.core s ended ≡ text_dispatch_outcome text plan core s ended

-- 12; then 13. The node keeps its core, and its state becomes the next one. A refusal returns no task and leaves the node as it was lent.
pub record NodeTickingEnds (before : PreparedNode) (ended : Bool) (answer : TaskToRun) (after : PreparedNode) : Type 0 where
  pub outcome : Dispatched
  pub its_outcome : outcome ≡ core_outcome before.core before.state ended
  pub as_tested : CoreTickEnds before.core before.state ended outcome
  pub same_answer : answer ≡ dispatched_numbers outcome
  pub node_after : after ≡ record { core = before.core; state = outcome.state }
  pub refused_as_lent : (r : Refusal) → outcome.verdict ≡ Err r → (answer.task ≡ 0) × (after ≡ before)

-- 1; 2, 3, 4; then 6, for which the longest listing of all counts; then 5
abbrev pub TextListingEnds : List ℕ → List ℕ → Result ℕ Refusal → List ℕ → Type 0
TextListingEnds text out given after =
    Ends
    (text_then text (λ p. room most_listing out and_then plan_found (best_plan p)))
    (1 ∷ 2 ∷ 3 ∷ 4 ∷ 6 ∷ 5 ∷ [])
    (lent (length (listing_of text)) out after ∷ [])
    (verdict_of given)

-- 1; 2, 3, 17; then 18
abbrev pub TextAskingEnds : List ℕ → Date → ℕ → Result PlanDays Refusal → Type 0
TextAskingEnds text d minute given =
    Ends
    (read_then (words_of text) (λ words. read_then (calendar_of words) (λ es. cond (is_question d minute) accepted (Err NoSuchQuestion))))
    (1 ∷ 2 ∷ 3 ∷ 17 ∷ 18 ∷ [])
    []
    (verdict_of given)

-- number and place in what the C entries return
abbrev pub answer_site : Site → Answer
answer_site r = answer r.refusal r.place

abbrev pub answer_planned : Planned → Answer
answer_planned r = answer r.refusal r.place

abbrev pub answer_checked : Checked → Answer
answer_checked r = answer r.refusal r.place

abbrev pub answer_task : TaskToRun → Answer
answer_task r = answer r.refusal r.place

abbrev pub answer_listed : Listed → Answer
answer_listed r = answer r.refusal r.place

abbrev pub answer_ruled : Ruled → Answer
answer_ruled r = answer r.refusal r.place

-- what the C entries return with a refusal beside its number and place: zeros
pub record RefusedWithZeros (r : Refusal) : Type 0 where
  pub reading : site_of (Err r) ≡ record { refusal = number_of r; place = place_of r; tasks = 0; levels = 0; cores = 0; span = 0 }
  pub planning : planned_of (Err r) ≡ record { refusal = number_of r; place = place_of r; energy = 0; penalty = 0; cost = 0 }
  pub listing : listed_of (Err r) ≡ record { refusal = number_of r; place = place_of r; length = 0 }
  pub asking : ruled_of (Err r) ≡ record { refusal = number_of r; place = place_of r; plan = 0; days = 0 }

-- Demand 3 of the numbers that planning from C returns, and of the plan and the table that were written with them
pub record OptimalNumbers (p : Problem) (returned : Planned) (plan table : List ℕ) : Type 0 where
  -- 5 exactly where there is no drawing
  pub no_plan : (returned.refusal ≡ 5) ↔ NoDrawing p
  -- else nothing is refused, and energy, penalty and cost are those of the plan
  pub otherwise : (returned.refusal ≡ 5 → ⊥) →
      (returned ≡ planned_of (Ok (price_of p plan))) × BestDrawing p plan table

-- What is printed for a text: "A refusal prints one line", that of the first test that fails, 1, then 2, 3, 4, then 5; else the
-- lines of a plan that no drawing beats, with its table
pub data Prints (text : List ℕ) : List ℕ → Type 0 where
  refusal : (r : Refusal) → text_then text (λ p. plan_found (best_plan p)) ≡ Err r → Prints text (refusal_line r)
  plan : (p : Problem) (best : List ℕ) → WritesProblem text p → BestDrawing p best (table_of p best) →
      Prints text (plan_lines p best (table_of p best))
