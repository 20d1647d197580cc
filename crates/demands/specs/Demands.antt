-- Demands 1 to 3: above each theorem stands the demand that it meets, in our words. What documents 00 to 02 say stands in
-- quotation marks. What the theorems speak of is defined in document 01's words in the crates below, and in `Endings` and
-- `Planned`. What (b), (c), (e), (f), (h) and (m) of document 02 ask beside stands in `SleepDemands`, `DeadlineDemands`,
-- `CountDemands`, `DispatchDemands`, `PenaltyDemands` and `CalendarDemands`.
use Rattle.std.specs.Prelude.{ℕ, ◌+◌, ◌-◌, ◌*◌, ◌≤◌, ◌<◌, Bool, true, false, cond, ◌↔◌, ◌≡◌, length, take, Result, Ok, Err}
use Rattle.std.specs.Int.{◌∣◌}
use mathlib.Core.List.{List, [], ◌∷◌, map, Memᴰ}
use Rattle.std.proofs.Math.Option.{none, some}
use Rattle.laws.specs.Lists.{onto}
use Rattle.laws.specs.Sums.{sum}
use Rattle.text.specs.Decimal.{spelled}
use Rattle.ranges.specs.Limits.{most_text_bytes}
use Rattle.instance.specs.Held.{HoldsProblem}
use Rattle.instance.specs.Node.{Problem, level_count, task_count, level_at, task_at, span}
use Rattle.instance.specs.OutcomeLaws.{reading_ends, instance_is_handed_over}
use Rattle.instance.specs.Outcomes.{instance_outcome, ReadingEnds}
use Rattle.calendar.specs.CalendarLaws.{read_calendar_is_valid, read_calendar_is_written, valid_calendar_is_read}
use Rattle.calendar.specs.Calendars.{calendar_of}
use Rattle.calendar.specs.Hours.{plan_at_outcome, AskingEnds}
use Rattle.calendar.specs.HoursLaws.{asking_ends}
use Rattle.calendar.specs.ValidCalendars.{ValidCalendar, words_of_calendar}
use Rattle.calendar.specs.declared.Date.{Date}
use Rattle.calendar.specs.declared.Entry.{Entry}
use Rattle.refusals.specs.RefusalNumbers.{numbers_and_places, every_refusal_is_listed}
use Rattle.text.specs.OutcomeLaws.{text_ends, words_are_handed_over}
use Rattle.text.specs.Outcomes.{words_outcome, TextEnds}
use Rattle.refusals.specs.Refusals.{accepted, place_of, refusals_at, answer, answer_of}
use Rattle.instance.specs.SiteFile.{problem_of}
use Rattle.instance.specs.SiteFileLaws.{accepted_is_valid, accepted_is_written, valid_is_accepted}
use Rattle.instance.specs.SpanLaws.{period_divides_span, span_divides_common_multiple}
use Rattle.text.specs.SpelledLaws.{AllWords, spelled_is_read_back}
use Rattle.text.specs.Text.{words_of}
use Rattle.instance.specs.Valid.{Valid, Writes}
use Rattle.instance.specs.declared.Instance.{Instance}
use Rattle.refusals.specs.declared.Refusal.{Refusal}
use Rattle.refusals.specs.declared.Refusal.TheVariants.{Text, WordCount, WordRange, SpanTooLong, NoPlan, ShortBuffer, GivenPlan, CoreOverloaded, GivenTable, JobSlots, SwitchingWord, CoreOrState, EarlyEnd, CalendarDate, NoSuchQuestion}
use Rattle.drawings.specs.CheckTheorem.{check_accepts_exactly_drawings, check_accepts_exactly_drawn_tables}
use Rattle.drawings.specs.Drawings.{DrawnTable, Drawing}
use Rattle.prices.specs.EndingLaws.{pricing_ends}
use Rattle.tables.specs.EndingLaws.{tabling_ends}
use Rattle.checks.specs.CheckLaws.{slot_check_accepts_exactly_named_slots}
use Rattle.checks.specs.EndingLaws.{slot_checking_ends, checking_ends}
use Rattle.checks.specs.NamedSlots.{NamedSlots}
use Rattle.prices.specs.Outcomes.{price_outcome, PricingEnds}
use Rattle.tables.specs.Outcomes.{table_outcome, TablingEnds}
use Rattle.checks.specs.Outcomes.{slot_check_outcome, SlotCheckingEnds, check_outcome, CheckingEnds}
use Rattle.prices.specs.OutcomeLaws.{passing_plan_is_priced}
use Rattle.tables.specs.OutcomeLaws.{passing_plan_is_tabled}
use Rattle.tables.specs.Periods.{valid_is_periodic}
use Rattle.plan_rules.specs.Plans.{choices_pass, plan_passes}
use Rattle.plan_rules.specs.Quantities.{is_refused, level_of, keeps, ticks, job_ticks, jobs, core_load}
use Rattle.prices.specs.Prices.{idle_ticks, price_of}
use Rattle.prices.specs.IdleLaws.{idle_ticks_of_awake_core, no_idle_ticks_of_off_core}
use Rattle.tables.specs.Tables.{table_of, table_size}
use Rattle.drawings.specs.WorkedOut.{WorkedOut}
use Rattle.drawings.specs.WorkedOutLaws.{worked_out_is_table}
use Rattle.demands.specs.ArithmeticLaws.{ticks_round_up, priced_energy, priced_penalty, priced_cost, slots_checked_as_defined, checked_as_defined, best_plan_is_written}
use Rattle.planner.specs.BestDrawingLaws.{no_plan_iff_no_drawing, answered_is_best_drawing}
use Rattle.planner.specs.EndingLaws.{planning_ends}
use Rattle.planner.specs.Endings.{PlanningEnds}
use Rattle.planner.specs.Outcomes.{plan_outcome}
use Rattle.planner.specs.Planned.{NoDrawing, BestDrawing, Optimal}
use Rattle.planner.specs.PlannedLaws.{plan_outcome-is_planned}
use Rattle.planner.specs.Planning.{best_plan}
use Rattle.sleep.specs.EndingLaws.{sleeping_ends}
use Rattle.sleep.specs.Outcomes.{sleep_outcome, SleepingEnds}
use Rattle.dispatcher.specs.EndingLaws.{dispatching_ends, preparing_ends, core_tick_ends}
use Rattle.dispatcher.specs.Outcomes.{dispatch_outcome, DispatchingEnds}
use Rattle.dispatcher.specs.Preparing.{Prepares, PreparingEnds, CoreTickEnds, core_outcome}
use Rattle.dispatcher.specs.declared.DispatchState.{DispatchState}
use Rattle.dispatcher.specs.declared.preparing.PreparedCore.{PreparedCore}

-- Demand 1. Every call comes to an end, whatever text, words, plan or table it is given. It does its work, or it returns the
-- number and the place of the refusal that the papers have for that input, and then every buffer lent to it is as before.
--
-- Each call has the verdict of document 01's tests in their order: it returns one of the numbers that document 01 lists for it,
-- or 0.
pub record RefusalsExact : Type 0 where
  -- 'Refused input', row by row: "Returned" and "Place returned with it" of every refusal
  pub numbers_and_places : (place : ℕ) →
      map (λ (r : Refusal). answer_of (Err r))
      (Text place ∷ WordCount place ∷ WordRange place ∷ SpanTooLong place ∷ NoPlan
      ∷ ShortBuffer place ∷ GivenPlan place ∷ CoreOverloaded place ∷ GivenTable place ∷ JobSlots place
      ∷ SwitchingWord place ∷ CoreOrState ∷ EarlyEnd ∷ CalendarDate place ∷ NoSuchQuestion ∷ [])
      ≡ answer 1 place ∷ answer 2 place ∷ answer 3 place ∷ answer 4 place ∷ answer 5 0
      ∷ answer 6 place ∷ answer 7 place ∷ answer 8 place ∷ answer 9 place ∷ answer 10 place
      ∷ answer 11 place ∷ answer 12 0 ∷ answer 13 0 ∷ answer 17 place ∷ answer 18 0 ∷ []
  pub no_other_refusals : (r : Refusal) → Memᴰ r (refusals_at (place_of r))
  -- "Turning text into words: 1, then 6."
  pub text : (text words : List ℕ) → let o = words_outcome text words in TextEnds text words o.answer o.words
  -- "words are taken from the front, each tested for 2, 3, 4"
  pub reading : (words : List ℕ) → ReadingEnds words (instance_outcome words)
  -- 2, 3, 4, and: "Pricing and tabling test 7 and 8."
  pub pricing : (words plan : List ℕ) → PricingEnds words plan (price_outcome words plan)
  -- 2, 3, 4; "then 6; then 7 (length before choices); then 8"
  pub tabling : (words plan table : List ℕ) →
      let o = table_outcome words plan table in TablingEnds words plan table o.answer o.table
  -- document 02 (d): 2, 3, 4; then 7; then 9, length before slots
  pub slot_checking : (words plan table : List ℕ) → SlotCheckingEnds words plan table (slot_check_outcome words plan table)
  -- 2, 3, 4, and: "The check tests 7, 9 (length before slots), 10, and not 8."
  pub checking : (words plan table : List ℕ) → CheckingEnds words plan table (check_outcome words plan table)
  -- 2, 3, 4; then 6, "of several short ones, the plan's before the table's"; "5 comes last"
  pub planning : (words plan table : List ℕ) →
      let o = plan_outcome words plan table in PlanningEnds words plan table o.answer o.plan o.table
  -- document 02 (b): 2, 3, 4; then 11, "before 6"; then 6, "energies first"; then the check's own
  pub sleeping : (words plan table : List ℕ) (energy time : ℕ) (energies sleeps : List ℕ) →
      let o = sleep_outcome words plan table energy time energies sleeps in
      SleepingEnds words plan table energy time energies sleeps o.answer o.energies o.sleeps
  -- document 02 (f): 2, 3, 4; then 7 and 8; then 12; "then 13"; a refusal leaves "the state as handed in"
  pub dispatching : (words plan : List ℕ) (core : ℕ) (s : DispatchState) (ended : Bool) →
      DispatchingEnds words plan core s ended (dispatch_outcome words plan core s ended)
  -- the same in two: a core that is prepared once, 2, 3, 4, 7, 8, then 12 of the core; and a tick over it, 12, "then 13"
  pub preparing : (words plan : List ℕ) (core : ℕ) (prepared : Result PreparedCore Refusal) →
      Prepares words plan core prepared → PreparingEnds words plan core prepared
  pub ticking : (core : PreparedCore) (s : DispatchState) (ended : Bool) → CoreTickEnds core s ended (core_outcome core s ended)
  -- document 02 (m): 2 and 3 "word by word", 17 "once its entry's words have passed 2 and 3"; "then 18"
  pub asking : (calendar : List ℕ) (d : Date) (minute : ℕ) → AskingEnds calendar d minute (plan_at_outcome calendar d minute)
  -- none is turned down without need: words written out in base ten are taken from the text as they are, ..
  pub written_words_are_taken : (words : List ℕ) → AllWords words → length (spelled words) ≤ most_text_bytes →
      words_of (spelled words) ≡ Ok words
  -- .. and the words that are read are those that write the instances within document 01's ranges
  pub valid_instances_are_read : (p : Problem) (words : List ℕ) → Valid p → Writes p words → problem_of words ≡ Ok p
  pub no_others_are_read : (words : List ℕ) (p : Problem) → problem_of words ≡ Ok p → Valid p × Writes p words
  -- the calendars that are read are the valid ones, each from the one list of words that writes it
  pub valid_calendars_are_read : (es : List Entry) → ValidCalendar es → calendar_of (words_of_calendar es) ≡ Ok es
  pub no_other_calendars_are_read : (words : List ℕ) (es : List Entry) → calendar_of words ≡ Ok es →
      ValidCalendar es × (words ≡ words_of_calendar es)
  -- what was read is handed over: the words of the text at the buffer's front, with their count, ..
  pub words_handed_over : (text words buffer : List ℕ) → words_of text ≡ Ok words → length words ≤ length buffer →
      words_outcome text buffer ≡ record { answer = Ok (length words); words = onto words buffer }
  -- .. and the instance that the words are
  pub instance_handed_over : (words : List ℕ) (p : Problem) → problem_of words ≡ Ok p →
      (inst : Instance) × (instance_outcome words ≡ Ok inst) × HoldsProblem p inst

pub demand_1 : RefusalsExact
demand_1 =
    record {
      numbers_and_places = numbers_and_places;
      no_other_refusals = every_refusal_is_listed;
      text = text_ends;
      reading = reading_ends;
      pricing = pricing_ends;
      tabling = tabling_ends;
      slot_checking = slot_checking_ends;
      checking = checking_ends;
      planning = planning_ends;
      sleeping = sleeping_ends;
      dispatching = dispatching_ends;
      preparing = preparing_ends;
      ticking = core_tick_ends;
      asking = asking_ends;
      written_words_are_taken = spelled_is_read_back;
      valid_instances_are_read = λ p words. valid_is_accepted;
      no_others_are_read = λ words p read. (accepted_is_valid words read, accepted_is_written words read);
      valid_calendars_are_read = λ es. valid_calendar_is_read;
      no_other_calendars_are_read = λ words es read.
          (read_calendar_is_valid words read, read_calendar_is_written words read);
      words_handed_over = words_are_handed_over;
      instance_handed_over = instance_is_handed_over;
    }

-- Demand 2. Ticks, span, price and slot table are those of documents 01 and 02, in whole ticks; and of a plan that 7 lets pass, the
-- check passes exactly the tables in which each job of a kept task has exactly its ticks between release and deadline on its
-- core and every other slot is idle.
pub record QuantitiesExact (words : List ℕ) (p : Problem) : Type 0 where
  -- "c divided by s, rounded up", and (g) "plus the start ticks"
  pub ticks_rounded_up : (i l n : ℕ) → i < task_count p → l < level_count p →
      (ticks p.start (task_at p i).cycles (level_at p l).speed ≤ n + p.start) ↔ ((task_at p i).cycles ≤ n * (level_at p l).speed)
  -- "least common multiple of the periods"
  pub span_is_common_multiple : (i : ℕ) → i < task_count p → (task_at p i).period ∣ span p
  pub span_is_least : (m : ℕ) → ((i : ℕ) → i < task_count p → (task_at p i).period ∣ m) → span p ∣ m
  -- "Energy of a kept task: jobs × ticks × P.", and (a) "A core with a kept task pays idle power for each idle tick of the
  -- span. A core without one is off and pays nothing.": of a plan that 7 lets pass
  pub energy_of_kept_tasks_and_idle_ticks : (plan : List ℕ) → choices_pass p plan ≡ accepted →
      (price_of p plan).energy
      ≡ sum (λ i. cond (is_refused plan i) 0 (jobs p i * job_ticks p plan i * (level_at p (level_of p plan i)).power)) (task_count p)
      + p.idle * sum (idle_ticks p plan) p.cores
  pub idle_ticks_of_awake_core : (plan : List ℕ) (k i : ℕ) → i < task_count p → keeps p plan k i ≡ true →
      idle_ticks p plan k ≡ span p - core_load p plan k
  pub no_idle_ticks_of_off_core : (plan : List ℕ) (k : ℕ) → ((i : ℕ) → i < task_count p → keeps p plan k i ≡ false) →
      idle_ticks p plan k ≡ 0
  -- "Penalty of a refused one: jobs × its penalty."
  pub penalty_of_refused_tasks : (plan : List ℕ) →
      (price_of p plan).penalty ≡ sum (λ i. cond (is_refused plan i) (jobs p i * (task_at p i).penalty) 0) (task_count p)
  -- "energy weight × all energy + penalty weight × all penalty"
  pub weighted_cost : (plan : List ℕ) →
      (price_of p plan).cost ≡ p.weights.energy * (price_of p plan).energy + p.weights.penalty * (price_of p plan).penalty
  -- "among jobs released and not finished, the earliest due runs; of equal ones, the lower task number": of a plan that 7
  -- and 8 let pass; of another no table is made
  pub slot_table : (plan table : List ℕ) → plan_passes p plan ≡ accepted → WorkedOut p plan table ↔ (table ≡ table_of p plan)
  pub price_returned : (plan : List ℕ) → plan_passes p plan ≡ accepted → price_outcome words plan ≡ Ok (price_of p plan)
  pub table_written : (plan table : List ℕ) → plan_passes p plan ≡ accepted → table_size p ≤ length table →
      table_outcome words plan table ≡ record { answer = accepted; table = onto (table_of p plan) table }
  -- "Planning writes that plan and its table, and returns energy, penalty and cost."
  pub plan_written : (best plan table : List ℕ) → best_plan p ≡ some best → task_count p ≤ length plan → table_size p ≤ length table →
      plan_outcome words plan table
      ≡ record { answer = Ok (price_of p best); plan = onto best plan; table = onto (table_of p best) table }
  -- document 02 (d): of a plan that 7 lets pass, the first check passes exactly the tables of the right length in which each slot
  -- is 0 or names a task that the plan keeps on that slot's core
  pub slot_check_passes : (plan table : List ℕ) → choices_pass p plan ≡ accepted →
      (slot_check_outcome words plan table ≡ accepted) ↔ NamedSlots p plan table
  -- of a plan that 7 lets pass
  pub check_passes : (plan table : List ℕ) → choices_pass p plan ≡ accepted →
      (check_outcome words plan table ≡ accepted) ↔ DrawnTable p plan table

pub demand_2 : (words : List ℕ) (p : Problem) → problem_of words ≡ Ok p → QuantitiesExact words p
demand_2 words p read =
    let valid = accepted_is_valid words read in
    record {
      ticks_rounded_up = λ i l n is_task is_level. ticks_round_up _ _ _ n (valid.level l is_level).speed.at_least;
      span_is_common_multiple = period_divides_span valid;
      span_is_least = span_divides_common_multiple valid;
      energy_of_kept_tasks_and_idle_ticks = priced_energy p;
      idle_ticks_of_awake_core = idle_ticks_of_awake_core p;
      no_idle_ticks_of_off_core = no_idle_ticks_of_off_core p;
      penalty_of_refused_tasks = priced_penalty p;
      weighted_cost = priced_cost p;
      slot_table = λ plan table passes. worked_out_is_table p (valid_is_periodic valid) plan passes table;
      price_returned = passing_plan_is_priced words p read;
      table_written = passing_plan_is_tabled words p read;
      plan_written = best_plan_is_written words p read;
      slot_check_passes = λ plan table passes.
          rw (slots_checked_as_defined words p read plan table)
          (slot_check_accepts_exactly_named_slots p (valid_is_periodic valid) plan table passes);
      check_passes = λ plan table passes.
          rw (checked_as_defined words p read plan table)
          (check_accepts_exactly_drawn_tables p (valid_is_periodic valid) plan table passes);
    }

-- Demand 3. Of every instance that is read without refusal: there is "no plan" exactly where there is no drawing for it.
-- Elsewhere the plan with its table is a drawing, the cost returned is that plan's, nobody's drawing costs less, and the table
-- repeated without end gives every job of a kept task exactly its ticks in time.
pub record PlanningOptimal (words : List ℕ) (p : Problem) : Type 0 where
  pub no_plan : (best_plan p ≡ none) ↔ NoDrawing p
  pub otherwise : (plan : List ℕ) → best_plan p ≡ some plan → BestDrawing p plan (table_of p plan)
  -- the same of what planning answers and writes to the fronts of buffers that are long enough
  pub planning : (plan table : List ℕ) → task_count p ≤ length plan → table_size p ≤ length table →
      let o = plan_outcome words plan table in
      Optimal p o.answer (take (task_count p) o.plan) (take (table_size p) o.table)
  -- "These are the choices and tables that pass the check."
  pub drawings_pass_the_check : (plan table : List ℕ) → (check_outcome words plan table ≡ accepted) ↔ Drawing p plan table

pub demand_3 : (words : List ℕ) (p : Problem) → problem_of words ≡ Ok p → PlanningOptimal words p
demand_3 words p read =
    let periodic = valid_is_periodic (accepted_is_valid words read) in
    record {
      no_plan = no_plan_iff_no_drawing p periodic;
      otherwise = answered_is_best_drawing p periodic;
      planning = λ plan table. (plan_outcome-is_planned words plan table).optimal p read;
      drawings_pass_the_check = λ plan table.
          rw (checked_as_defined words p read plan table) (check_accepts_exactly_drawings p periodic plan table);
    }
