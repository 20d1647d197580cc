-- The whole outcome of the calls of a program in C, for every text: what is answered, and what each lent buffer holds
-- afterwards. Plans and tables are the lists that the lent bytes are: "there a choice is one byte". The numbers of an answer are
-- `Answers` of the crate `answers`; what listing answers and leaves in its buffer is `list_outcome` of the crate `listings`.
use Rattle.refusals.specs.declared.Refusal.{Refusal}
use Rattle.std.specs.Prelude.{ℕ, Bool, List, ◌≡◌, Result, Ok, Err}
use Rattle.refusals.specs.Refusals.{Reading, Verdict}
use Rattle.text.specs.Text.{words_of}
use Rattle.instance.specs.Node.{Problem}
use Rattle.instance.specs.SiteFile.{problem_of}
use Rattle.calendar.specs.Hours.{plan_at_outcome}
use Rattle.calendar.specs.declared.Date.{Date}
use Rattle.calendar.specs.declared.PlanDays.{PlanDays}
use Rattle.checks.specs.Outcomes.{slot_check_outcome, check_outcome}
use Rattle.sleep.specs.Outcomes.{SleepOutcome, sleep_outcome}
use Rattle.dispatcher.specs.Outcomes.{dispatch_outcome}
use Rattle.dispatcher.specs.declared.DispatchState.{DispatchState}
use Rattle.dispatcher.specs.declared.Dispatched.{Dispatched}
use Rattle.planner.specs.Outcomes.{PlanOutcome, plan_refused, plan_outcome}
use Rattle.answers.specs.Answers.{task_to_run_of}
use Rattle.answers.specs.declared.TaskToRun.{TaskToRun}

-- "In any other call that is given text, 1 comes before all the rest."
abbrev pub text_read_outcome_of : Reading (List ℕ) → Reading Problem
text_read_outcome_of (Err r) = Err r
text_read_outcome_of (Ok words) = problem_of words

unfoldable pub text_read_outcome : List ℕ → Reading Problem
text_read_outcome text = text_read_outcome_of (words_of text)

abbrev pub text_plan_outcome_of : Reading (List ℕ) → List ℕ → List ℕ → PlanOutcome
text_plan_outcome_of (Err r) plan table = plan_refused r plan table
text_plan_outcome_of (Ok words) plan table = plan_outcome words plan table

unfoldable pub text_plan_outcome : List ℕ → List ℕ → List ℕ → PlanOutcome
text_plan_outcome text plan table = text_plan_outcome_of (words_of text) plan table

abbrev pub text_slot_check_outcome_of : Reading (List ℕ) → List ℕ → List ℕ → Verdict
text_slot_check_outcome_of (Err r) plan table = Err r
text_slot_check_outcome_of (Ok words) plan table = slot_check_outcome words plan table

unfoldable pub text_slot_check_outcome : List ℕ → List ℕ → List ℕ → Verdict
text_slot_check_outcome text plan table = text_slot_check_outcome_of (words_of text) plan table

abbrev pub text_check_outcome_of : Reading (List ℕ) → List ℕ → List ℕ → Verdict
text_check_outcome_of (Err r) plan table = Err r
text_check_outcome_of (Ok words) plan table = check_outcome words plan table

unfoldable pub text_check_outcome : List ℕ → List ℕ → List ℕ → Verdict
text_check_outcome text plan table = text_check_outcome_of (words_of text) plan table

abbrev pub text_sleep_outcome_of : Reading (List ℕ) → (plan table : List ℕ) → (energy time : ℕ) → (energies sleeps : List ℕ) → SleepOutcome
text_sleep_outcome_of (Err r) plan table energy time energies sleeps =
    record { answer = Err r; energies = energies; sleeps = sleeps }
text_sleep_outcome_of (Ok words) plan table energy time energies sleeps =
    sleep_outcome words plan table energy time energies sleeps

unfoldable pub text_sleep_outcome : (text plan table : List ℕ) → (energy time : ℕ) → (energies sleeps : List ℕ) → SleepOutcome
text_sleep_outcome text plan table energy time energies sleeps =
    text_sleep_outcome_of (words_of text) plan table energy time energies sleeps

abbrev pub text_dispatch_outcome_of : Reading (List ℕ) → (plan : List ℕ) → ℕ → DispatchState → Bool → Dispatched
text_dispatch_outcome_of (Err r) plan core s ended = record { verdict = Err r; task = 0; state = s }
text_dispatch_outcome_of (Ok words) plan core s ended = dispatch_outcome words plan core s ended

unfoldable pub text_dispatch_outcome : (text plan : List ℕ) → ℕ → DispatchState → Bool → Dispatched
text_dispatch_outcome text plan core s ended = text_dispatch_outcome_of (words_of text) plan core s ended

abbrev pub text_plan_at_outcome_of : Reading (List ℕ) → Date → ℕ → Result PlanDays Refusal
text_plan_at_outcome_of (Err r) d minute = Err r
text_plan_at_outcome_of (Ok words) d minute = plan_at_outcome words d minute

unfoldable pub text_plan_at_outcome : List ℕ → Date → ℕ → Result PlanDays Refusal
text_plan_at_outcome text d minute = text_plan_at_outcome_of (words_of text) d minute

-- the numbers that dispatching returns, and what stands in the state's place afterwards
pub record TextDispatches (text plan : List ℕ) (core : ℕ) (before : DispatchState) (ended : Bool) (answer : TaskToRun) (after : DispatchState) : Type 0 where
  pub same_answer :
      answer
      ≡ task_to_run_of (text_dispatch_outcome text plan core before ended).verdict (text_dispatch_outcome text plan core before ended).task
  pub next_state : after ≡ (text_dispatch_outcome text plan core before ended).state
