-- The calls that are given text end as those that are given its words, with 1 before all the rest; and the listing prints a
-- refusal's line or the best plan.
use Rattle.std.specs.Prelude.{ℕ, Bool, List, [], ◌∷◌, ◌↔◌, ◌≡◌, Result, Ok, Err}
use mathlib.Core.List.Memᴰ
use Rattle.std.proofs.Math.Option.{Option, none, some}
use Rattle.std.proofs.Math.Path.{refl, ap}
use Rattle.std.proofs.Common.{◌∙◌, arith}
use Rattle.refusals.specs.EndingLaws.{unchanged, turns_down}
use Rattle.refusals.specs.Endings.{Lent, lent, ServedOrRefused, served, refused, Ends, read_then, needed_for}
use Rattle.instance.specs.Node.{Problem, task_count}
use Rattle.refusals.specs.RefusalNumbers.{UnreadOnly, read, unread, number_above_zero}
use Rattle.refusals.specs.Refusals.{Answer, number_of, answer_of, Reading, room, ◌and_then◌, Verdict, accepted, verdict_of}
use Rattle.instance.specs.SiteFile.{problem_of}
use Rattle.instance.specs.SiteFileLaws.{accepted_is_valid}
use Rattle.refusals.specs.declared.Refusal.{Refusal}
use Rattle.refusals.specs.declared.Refusal.TheVariants.{Text, WordCount, WordRange, SpanTooLong, NoPlan, ShortBuffer, GivenPlan, CoreOverloaded, GivenTable, JobSlots, SwitchingWord, CoreOrState, EarlyEnd, CalendarDate, NoSuchQuestion}
use Rattle.text.specs.OutcomeLaws.{text_refuses_1}
use Rattle.text.specs.Text.{words_of}
use Rattle.checks.specs.Checks.{slots_pass, jobs_pass}
use Rattle.checks.specs.EndingLaws.{slot_checking_ends, checking_ends}
use Rattle.checks.specs.Outcomes.{check_outcome}
use Rattle.tables.specs.Periods.{valid_is_periodic}
use Rattle.plan_rules.specs.Plans.{choices_pass}
use Rattle.prices.specs.declared.amounts.Price.{Price}
use Rattle.tables.specs.Tables.{table_size}
use Rattle.planner.specs.BestDrawingLaws.{answered_is_best_drawing}
use Rattle.planner.specs.EndingLaws.{planning_ends}
use Rattle.planner.specs.Endings.{plan_found}
use Rattle.planner.specs.Outcomes.{plan_outcome}
use Rattle.planner.specs.Planned.{Optimal}
use Rattle.planner.specs.Planning.{best_plan}
use Rattle.sleep.specs.EndingLaws.{sleeping_ends}
use Rattle.sleep.specs.Outcomes.{sleep_tests}
use Rattle.dispatcher.specs.EndingLaws.{dispatching_ends}
use Rattle.dispatcher.specs.Outcomes.{DispatchEnds, dispatch_tests}
use Rattle.dispatcher.specs.declared.DispatchState.{DispatchState}
use Rattle.dispatcher.specs.declared.Dispatched.{Dispatched}
use Rattle.answers.specs.Answers.{planned_of, checked_of, task_to_run_of}
use Rattle.towhepamu.specs.CallOutcomes.{text_plan_outcome, text_plan_outcome_of, text_slot_check_outcome, text_slot_check_outcome_of, text_check_outcome, text_check_outcome_of, text_sleep_outcome, text_sleep_outcome_of}
use Rattle.towhepamu.specs.CallOutcomes.{text_read_outcome, text_read_outcome_of, text_dispatch_outcome, text_dispatch_outcome_of}
use Rattle.listings.specs.Listing.{listing_of_plan, listing_of_problem, listing_of_words, listing_of}
use Rattle.demands.specs.TextCalls.{WritesProblem, TextPlanningEnds, TextSlotCheckingEnds, TextCheckingEnds, TextSleepingEnds, TextDispatchingEnds, answer_planned, answer_checked, answer_task, dispatched_numbers, OptimalNumbers, Prints}

-- a call that may return one number more
one_more_number : {n : ℕ} {numbers : List ℕ} {buffers : List Lent} {a : Answer} →
    ServedOrRefused numbers buffers a → ServedOrRefused (n ∷ numbers) buffers a
one_more_number (served written) = served written
one_more_number (refused listed same) = refused (Memᴰ.tail listed) same

pub may_return : {n : ℕ} {tests verdict : Verdict} {numbers : List ℕ} {buffers : List Lent} →
    Ends tests numbers buffers verdict → Ends tests (n ∷ numbers) buffers verdict
may_return ends = record { as_tested = ends.as_tested; ending = one_more_number ends.ending }

pub text_planning_ends : (text plan table : List ℕ) →
    let o = text_plan_outcome text plan table in TextPlanningEnds text plan table o.answer o.plan o.table
unfolding text_plan_outcome
text_planning_ends text plan table = go (text_refuses_1 text)
  where
    sized : (Problem → ℕ) → Reading (List ℕ) → ℕ
    sized size reading = needed_for (λ words. needed_for size (problem_of words)) reading

    tests : Problem → Verdict
    tests p = (room (task_count p) plan and_then room (table_size p) table) and_then plan_found (best_plan p)

    go : {reading : Reading (List ℕ)} → UnreadOnly (1 ∷ []) reading →
        let o = text_plan_outcome_of reading plan table in
        Ends
        (read_then reading (λ words. read_then (problem_of words) tests))
        (1 ∷ 2 ∷ 3 ∷ 4 ∷ 6 ∷ 5 ∷ [])
        (lent (sized task_count reading) plan o.plan ∷ lent (sized table_size reading) table o.table ∷ [])
        (verdict_of o.answer)
    go (read words) = may_return (planning_ends words plan table)
    go (unread m) = turns_down (Memᴰ.append_left (2 ∷ 3 ∷ 4 ∷ 6 ∷ 5 ∷ []) m) (unchanged, (unchanged, tt))

pub text_slot_checking_ends : (text plan table : List ℕ) → TextSlotCheckingEnds text plan table (text_slot_check_outcome text plan table)
unfolding text_slot_check_outcome
text_slot_checking_ends text plan table = go (text_refuses_1 text)
  where
    go : {reading : Reading (List ℕ)} → UnreadOnly (1 ∷ []) reading →
        Ends
        (read_then reading (λ words. read_then (problem_of words) (λ p. choices_pass p plan and_then slots_pass p plan table)))
        (1 ∷ 2 ∷ 3 ∷ 4 ∷ 7 ∷ 9 ∷ [])
        []
        (text_slot_check_outcome_of reading plan table)
    go (read words) = may_return (slot_checking_ends words plan table)
    go (unread m) = turns_down (Memᴰ.append_left (2 ∷ 3 ∷ 4 ∷ 7 ∷ 9 ∷ []) m) tt

pub text_checking_ends : (text plan table : List ℕ) → TextCheckingEnds text plan table (text_check_outcome text plan table)
unfolding text_check_outcome
text_checking_ends text plan table = go (text_refuses_1 text)
  where
    tests : Problem → Verdict
    tests p = choices_pass p plan and_then slots_pass p plan table and_then jobs_pass p plan table

    go : {reading : Reading (List ℕ)} → UnreadOnly (1 ∷ []) reading →
        Ends
        (read_then reading (λ words. read_then (problem_of words) tests))
        (1 ∷ 2 ∷ 3 ∷ 4 ∷ 7 ∷ 9 ∷ 10 ∷ [])
        []
        (text_check_outcome_of reading plan table)
    go (read words) = may_return (checking_ends words plan table)
    go (unread m) = turns_down (Memᴰ.append_left (2 ∷ 3 ∷ 4 ∷ 7 ∷ 9 ∷ 10 ∷ []) m) tt

pub text_sleeping_ends : (text plan table : List ℕ) (energy time : ℕ) (energies sleeps : List ℕ) →
    let o = text_sleep_outcome text plan table energy time energies sleeps in
    TextSleepingEnds text plan table energy time energies sleeps o.answer o.energies o.sleeps
unfolding text_sleep_outcome
text_sleeping_ends text plan table energy time energies sleeps = go (text_refuses_1 text)
  where
    cores : Reading (List ℕ) → ℕ
    cores reading = needed_for (λ words. needed_for (λ p. p.cores) (problem_of words)) reading

    tests : Problem → Verdict
    tests p = sleep_tests p plan table energy time energies sleeps

    go : {reading : Reading (List ℕ)} → UnreadOnly (1 ∷ []) reading →
        let o = text_sleep_outcome_of reading plan table energy time energies sleeps in
        Ends
        (read_then reading (λ words. read_then (problem_of words) tests))
        (1 ∷ 2 ∷ 3 ∷ 4 ∷ 11 ∷ 6 ∷ 7 ∷ 9 ∷ 10 ∷ [])
        (lent (cores reading) energies o.energies ∷ lent (cores reading) sleeps o.sleeps ∷ [])
        o.answer
    go (read words) = may_return (sleeping_ends words plan table energy time energies sleeps)
    go (unread m) = turns_down (Memᴰ.append_left (2 ∷ 3 ∷ 4 ∷ 11 ∷ 6 ∷ 7 ∷ 9 ∷ 10 ∷ []) m) (unchanged, (unchanged, tt))

pub text_dispatching_ends : (text plan : List ℕ) (core : ℕ) (s : DispatchState) (ended : Bool) →
    TextDispatchingEnds text plan core s ended (text_dispatch_outcome text plan core s ended)
unfolding text_dispatch_outcome
text_dispatching_ends text plan core s ended = go (text_refuses_1 text)
  where
    go : {reading : Reading (List ℕ)} → UnreadOnly (1 ∷ []) reading →
        DispatchEnds
        (read_then reading (λ words. read_then (problem_of words) (λ p. dispatch_tests p plan core s ended)))
        (1 ∷ 2 ∷ 3 ∷ 4 ∷ 7 ∷ 8 ∷ 12 ∷ 13 ∷ [])
        s
        (text_dispatch_outcome_of reading plan core s ended)
    go (read words) =
        let of_words = dispatching_ends words plan core s ended in
        record { as_tested = may_return of_words.as_tested; refused_as_handed_in = of_words.refused_as_handed_in }
    go (unread m) =
        record {
          as_tested = turns_down (Memᴰ.append_left (2 ∷ 3 ∷ 4 ∷ 7 ∷ 8 ∷ 12 ∷ 13 ∷ []) m) tt;
          refused_as_handed_in = λ r e. (refl, refl);
        }

-- the numbers that the C entries return are those of the verdict

pub planning_returns : (given : Result Price Refusal) → answer_planned (planned_of given) ≡ answer_of (verdict_of given)
planning_returns (Ok price) = refl
planning_returns (Err r) = refl

pub checking_returns : (verdict : Verdict) → answer_checked (checked_of verdict) ≡ answer_of verdict
checking_returns (Ok tt) = refl
checking_returns (Err r) = refl

pub dispatching_returns : (verdict : Verdict) (task : ℕ) → answer_task (task_to_run_of verdict task) ≡ answer_of verdict
dispatching_returns (Ok tt) task = refl
dispatching_returns (Err r) task = refl

pub dispatching_hands_over : (d : Dispatched) → task_to_run_of d.verdict d.task ≡ dispatched_numbers d
dispatching_hands_over d = go d.verdict d.task
  where
    go : (verdict : Verdict) (task : ℕ) →
        task_to_run_of verdict task ≡ record { refusal = (answer_of verdict).number; place = (answer_of verdict).place; task = task }
    go (Ok tt) task = refl
    go (Err r) task = refl

-- no other refusal has the number of "no plan"
number_5_is_no_plan : (r : Refusal) → number_of r ≡ 5 → r ≡ NoPlan
number_5_is_no_plan (Text place) e = absurd (omega arith)
number_5_is_no_plan (WordCount place) e = absurd (omega arith)
number_5_is_no_plan (WordRange place) e = absurd (omega arith)
number_5_is_no_plan (SpanTooLong place) e = absurd (omega arith)
number_5_is_no_plan NoPlan e = refl
number_5_is_no_plan (ShortBuffer place) e = absurd (omega arith)
number_5_is_no_plan (GivenPlan place) e = absurd (omega arith)
number_5_is_no_plan (CoreOverloaded place) e = absurd (omega arith)
number_5_is_no_plan (GivenTable place) e = absurd (omega arith)
number_5_is_no_plan (JobSlots place) e = absurd (omega arith)
number_5_is_no_plan (SwitchingWord place) e = absurd (omega arith)
number_5_is_no_plan CoreOrState e = absurd (omega arith)
number_5_is_no_plan EarlyEnd e = absurd (omega arith)
number_5_is_no_plan (CalendarDate place) e = absurd (omega arith)
number_5_is_no_plan NoSuchQuestion e = absurd (omega arith)

returns_5 : (given : Result Price Refusal) → (planned_of given).refusal ≡ 5 → given ≡ Err NoPlan
returns_5 (Ok price) e = absurd (omega arith)
returns_5 (Err r) e = ap Err (number_5_is_no_plan r e)

pub optimal_numbers : (p : Problem) (given : Result Price Refusal) (plan table : List ℕ) → Optimal p given plan table →
    OptimalNumbers p (planned_of given) plan table
optimal_numbers p given plan table optimal =
    record {
      no_plan = (λ five. optimal.no_plan.0 (returns_5 given five), λ none_drawn. ap (λ g. (planned_of g).refusal) (optimal.no_plan.1 none_drawn));
      otherwise = λ other.
          let found = optimal.otherwise (λ e. other (ap (λ g. (planned_of g).refusal) e)) in (ap planned_of found.0, found.1);
    }

-- what is printed, from what reading the text answers
module _ (text : List ℕ) where
  plan_printed : (words : List ℕ) → words_of text ≡ Ok words → (p : Problem) → problem_of words ≡ Ok p →
      Prints text (listing_of_plan p (best_plan p))
  plan_printed words of_text p of_words = go (best_plan p) refl
    where
      go : (found : Option (List ℕ)) → best_plan p ≡ found → Prints text (listing_of_plan p found)
      go none e = Prints.refusal NoPlan (rw (of_text, of_words, e) refl)
      go (some best) e =
          Prints.plan p best
          (record { words = words; words_of_text = of_text; problem_of_words = of_words })
          (answered_is_best_drawing p (valid_is_periodic (accepted_is_valid words of_words)) best e)

  words_printed : (words : List ℕ) → words_of text ≡ Ok words → Prints text (listing_of_problem (problem_of words))
  words_printed words of_text = go (problem_of words) refl
    where
      go : (reading : Reading Problem) → problem_of words ≡ reading → Prints text (listing_of_problem reading)
      go (Err r) e = Prints.refusal r (rw (of_text, e) refl)
      go (Ok p) e = plan_printed words of_text p e

  pub listing_prints : Prints text (listing_of text)
  unfolding listing_of
  listing_prints = go (words_of text) refl
    where
      go : (reading : Reading (List ℕ)) → words_of text ≡ reading → Prints text (listing_of_words reading)
      go (Err r) e = Prints.refusal r (rw e refl)
      go (Ok words) e = words_printed words e

-- of a text of an instance the C entries have the outcomes of its words

pub read_as_words : (text : List ℕ) (p : Problem) → WritesProblem text p → text_read_outcome text ≡ Ok p
unfolding text_read_outcome
read_as_words text p writes = ap text_read_outcome_of writes.words_of_text ∙ writes.problem_of_words

module _ (text : List ℕ) (p : Problem) (writes : WritesProblem text p) (plan table : List ℕ) where
  pub planned_as_words : text_plan_outcome text plan table ≡ plan_outcome writes.words plan table
  unfolding text_plan_outcome
  planned_as_words = ap (λ reading. text_plan_outcome_of reading plan table) writes.words_of_text

  pub checked_as_words : text_check_outcome text plan table ≡ check_outcome writes.words plan table
  unfolding text_check_outcome
  checked_as_words = ap (λ reading. text_check_outcome_of reading plan table) writes.words_of_text

accepted_returns_0 : (verdict : Verdict) → ((checked_of verdict).refusal ≡ 0) ↔ (verdict ≡ accepted)
accepted_returns_0 (Ok tt) = (λ e. refl, λ e. refl)
accepted_returns_0 (Err r) = (
  λ e. absurd (omega (arith, number_above_zero r)),
  λ e. let z : ◌≡◌ {A = ℕ} 0 1 = cc in absurd (omega arith),
)

pub passes_iff : {A : Type 0} (verdict : Verdict) → (verdict ≡ accepted) ↔ A → ((checked_of verdict).refusal ≡ 0) ↔ A
passes_iff verdict iff =
    let returned = accepted_returns_0 verdict in (λ e. iff.0 (returned.0 e), λ a. returned.1 (iff.1 a))
