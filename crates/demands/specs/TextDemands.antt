-- The demands of the calls that are given text: `towhepamu_read`, `towhepamu_plan`, `towhepamu_check_slots`, `towhepamu_check`,
-- `towhepamu_sleep`, `towhepamu_dispatch`, `towhepamu_prepare`, `towhepamu_list` and `towhepamu_calendar`, which a program in C calls; of `towhepamu_tick`, which
-- goes on from what was prepared; and of `list_site`, whose bytes the listing program prints. Their contracts equate what they return
-- and write with the outcomes named here.
use Rattle.std.specs.Prelude.{ℕ, ◌≤◌, Bool, List, ◌↔◌, ◌≡◌, refl, length, take, Ok}
use Rattle.std.proofs.Common.{ap}
use Rattle.laws.specs.Lists.{onto}
use Rattle.instance.specs.Node.{Problem, level_count, task_count, span}
use Rattle.refusals.specs.Refusals.{answer_of, accepted, verdict_of}
use Rattle.refusals.specs.declared.Refusal.{Refusal}
use Rattle.calendar.specs.declared.Date.{Date}
use Rattle.calendar.specs.declared.PlanDays.{PlanDays}
use Rattle.drawings.specs.Drawings.{Drawing}
use Rattle.tables.specs.Tables.{table_size}
use Rattle.demands.specs.Demands.{demand_3}
use Rattle.dispatcher.specs.declared.DispatchState.{DispatchState}
use Rattle.answers.specs.Answers.{site_of, planned_of, checked_of, listed_of, task_to_run_of, ruled_of}
use Rattle.answers.specs.declared.Checked.{Checked}
use Rattle.answers.specs.declared.TaskToRun.{TaskToRun}
use Rattle.towhepamu.specs.CallOutcomes.{text_read_outcome, text_plan_outcome, text_slot_check_outcome, text_check_outcome, text_sleep_outcome}
use Rattle.towhepamu.specs.CallOutcomes.{text_dispatch_outcome, text_plan_at_outcome}
use Rattle.towhepamu.specs.PreparedNodes.{PreparesNode, NodeTicks}
use Rattle.towhepamu.specs.declared.nodes.PreparedNode.{PreparedNode}
use Rattle.listings.specs.Listing.{listing_of}
use Rattle.listings.specs.Outcomes.{list_outcome}
use Rattle.demands.specs.NodeLaws.{preparing_node_ends, ticking_node_ends}
use Rattle.demands.specs.TextCallLaws.{text_planning_ends, text_slot_checking_ends, text_checking_ends, text_sleeping_ends, text_dispatching_ends, planning_returns, checking_returns, dispatching_returns, dispatching_hands_over, optimal_numbers, listing_prints, read_as_words, planned_as_words, checked_as_words, passes_iff}
use Rattle.demands.specs.TextCalls.{WritesProblem, TextReadingEnds, TextPlanningEnds, TextSlotCheckingEnds, TextCheckingEnds, TextSleepingEnds, TextDispatchingEnds, NodePreparingEnds, NodeTickingEnds, TextListingEnds, TextAskingEnds, answer_site, answer_planned, answer_checked, answer_task, dispatched_numbers, answer_listed, answer_ruled, RefusedWithZeros, OptimalNumbers, Prints}
use Rattle.demands.specs.TextEndingLaws.{text_reading_ends, text_listing_ends, reading_returns, listing_returns, text_listing_hands_over, text_asking_ends, asking_returns}

-- Demand 1. Whatever text, plan and table it is given, each of these calls does its work or returns the number and place of
-- the first refusal that the papers have for that input, 1 before all the rest; and then every lent buffer is as before.
pub record TextRefusalsExact : Type 0 where
  -- reading from C: 1; 2, 3, 4
  pub reading : (text : List ℕ) → TextReadingEnds text (verdict_of (text_read_outcome text))
  pub reading_numbers : (text : List ℕ) →
      let reading = text_read_outcome text in answer_site (site_of reading) ≡ answer_of (verdict_of reading)
  -- .. and of an instance how large it is
  pub reading_hands_over : (text : List ℕ) (p : Problem) → WritesProblem text p →
      site_of (text_read_outcome text)
      ≡ record { refusal = 0; place = 0; tasks = task_count p; levels = level_count p; cores = p.cores; span = span p }
  -- planning from C: 1; 2, 3, 4; 6; 5
  pub planning : (text plan table : List ℕ) →
      let o = text_plan_outcome text plan table in TextPlanningEnds text plan table o.answer o.plan o.table
  -- number and place in the struct that it returns are the verdict's, 0 and 0 where there is a plan
  pub planning_numbers : (text plan table : List ℕ) →
      let o = text_plan_outcome text plan table in answer_planned (planned_of o.answer) ≡ answer_of (verdict_of o.answer)
  -- the check of the slots from C: 1; 2, 3, 4; 7; 9
  pub slot_checking : (text plan table : List ℕ) → TextSlotCheckingEnds text plan table (text_slot_check_outcome text plan table)
  pub slot_checking_numbers : (text plan table : List ℕ) →
      let v = text_slot_check_outcome text plan table in answer_checked (checked_of v) ≡ answer_of v
  -- the check from C: 1; 2, 3, 4; 7; 9; 10
  pub checking : (text plan table : List ℕ) → TextCheckingEnds text plan table (text_check_outcome text plan table)
  pub checking_numbers : (text plan table : List ℕ) →
      let v = text_check_outcome text plan table in answer_checked (checked_of v) ≡ answer_of v
  -- the reckoning of sleeps from C: 1; 2, 3, 4; 11; 6; 7; 9; 10
  pub sleeping : (text plan table : List ℕ) (energy time : ℕ) (energies sleeps : List ℕ) →
      let o = text_sleep_outcome text plan table energy time energies sleeps in
      TextSleepingEnds text plan table energy time energies sleeps o.answer o.energies o.sleeps
  pub sleeping_numbers : (text plan table : List ℕ) (energy time : ℕ) (energies sleeps : List ℕ) →
      let v = (text_sleep_outcome text plan table energy time energies sleeps).answer in answer_checked (checked_of v) ≡ answer_of v
  -- dispatching from C: 1; 2, 3, 4; 7; 8; 12; 13
  pub dispatching : (text plan : List ℕ) (core : ℕ) (s : DispatchState) (ended : Bool) →
      TextDispatchingEnds text plan core s ended (text_dispatch_outcome text plan core s ended)
  pub dispatching_numbers : (text plan : List ℕ) (core : ℕ) (s : DispatchState) (ended : Bool) →
      let o = text_dispatch_outcome text plan core s ended in answer_task (task_to_run_of o.verdict o.task) ≡ answer_of o.verdict
  -- .. and where it is not refused the task to run
  pub dispatching_hands_over : (text plan : List ℕ) (core : ℕ) (s : DispatchState) (ended : Bool) →
      let o = text_dispatch_outcome text plan core s ended in task_to_run_of o.verdict o.task ≡ dispatched_numbers o
  -- preparing a core from C: 1; 2, 3, 4; 7; 8; 12
  pub preparing : (text plan : List ℕ) (core : ℕ) (before : PreparedNode) (answer : Checked) (after : PreparedNode) →
      PreparesNode text plan core before answer after → NodePreparingEnds text plan core before answer after
  -- a tick over it: 12; 13
  pub ticking : (before : PreparedNode) (ended : Bool) (answer : TaskToRun) (after : PreparedNode) →
      NodeTicks before ended answer after → NodeTickingEnds before ended answer after
  -- the listing from C: 1; 2, 3, 4; 6; 5
  pub listing : (text out : List ℕ) → let o = list_outcome text out in TextListingEnds text out o.answer o.out
  pub listing_numbers : (text out : List ℕ) →
      let o = list_outcome text out in answer_listed (listed_of o.answer) ≡ answer_of (verdict_of o.answer)
  -- .. and where it is not refused the lines that are printed, with their length
  pub listing_hands_over : (text out : List ℕ) → let o = list_outcome text out in verdict_of o.answer ≡ accepted →
      (listed_of o.answer ≡ record { refusal = 0; place = 0; length = length (listing_of text) }) × (o.out ≡ onto (listing_of text) out)
  -- asking a calendar from C: 1; 2, 3, 17; 18
  pub asking : (text : List ℕ) (d : Date) (minute : ℕ) → TextAskingEnds text d minute (text_plan_at_outcome text d minute)
  pub asking_numbers : (text : List ℕ) (d : Date) (minute : ℕ) →
      let given = text_plan_at_outcome text d minute in answer_ruled (ruled_of given) ≡ answer_of (verdict_of given)
  -- .. and the plan in force with the days, as `CalendarDemands` has them
  pub asking_hands_over : (answer : PlanDays) →
      ruled_of (Ok answer) ≡ record { refusal = 0; place = 0; plan = answer.plan; days = answer.days }
  -- a refusal is returned alone
  pub refused_with_zeros : (r : Refusal) → RefusedWithZeros r
  -- what is printed for every text: 1; 2, 3, 4; 5; else the best plan
  pub printing : (text : List ℕ) → Prints text (listing_of text)

pub demand_1_of_text : TextRefusalsExact
demand_1_of_text =
    record {
      reading = text_reading_ends;
      reading_numbers = λ text. reading_returns (text_read_outcome text);
      reading_hands_over = λ text p writes. ap site_of (read_as_words text p writes);
      planning = text_planning_ends;
      planning_numbers = λ text plan table. planning_returns (text_plan_outcome text plan table).answer;
      slot_checking = text_slot_checking_ends;
      slot_checking_numbers = λ text plan table. checking_returns (text_slot_check_outcome text plan table);
      checking = text_checking_ends;
      checking_numbers = λ text plan table. checking_returns (text_check_outcome text plan table);
      sleeping = text_sleeping_ends;
      sleeping_numbers = λ text plan table energy time energies sleeps.
          checking_returns (text_sleep_outcome text plan table energy time energies sleeps).answer;
      dispatching = text_dispatching_ends;
      dispatching_numbers = λ text plan core s ended.
          let o = text_dispatch_outcome text plan core s ended in dispatching_returns o.verdict o.task;
      dispatching_hands_over = λ text plan core s ended. dispatching_hands_over (text_dispatch_outcome text plan core s ended);
      preparing = preparing_node_ends;
      ticking = ticking_node_ends;
      listing = text_listing_ends;
      listing_numbers = λ text out. listing_returns (list_outcome text out).answer;
      listing_hands_over = text_listing_hands_over;
      asking = text_asking_ends;
      asking_numbers = λ text d minute. asking_returns (text_plan_at_outcome text d minute);
      asking_hands_over = λ answer. refl;
      refused_with_zeros = λ r. record { reading = refl; planning = refl; listing = refl; asking = refl };
      printing = listing_prints;
    }

-- Demand 3, with the check of demand 2, of what a program in C is given: for every text of an instance, and buffers that are
-- long enough, planning returns 5 exactly where there is no drawing; else the plan and the table at the fronts of the buffers
-- are a drawing, the numbers returned are its price, and no drawing costs less. The check returns 0 exactly for drawings.
pub record TextPlanningOptimal (text : List ℕ) (p : Problem) : Type 0 where
  pub planning : (plan table : List ℕ) → task_count p ≤ length plan → table_size p ≤ length table →
      let o = text_plan_outcome text plan table in
      OptimalNumbers p (planned_of o.answer) (take (task_count p) o.plan) (take (table_size p) o.table)
  pub drawings_pass_the_check : (plan table : List ℕ) →
      ((checked_of (text_check_outcome text plan table)).refusal ≡ 0) ↔ Drawing p plan table

pub demand_3_of_text : (text : List ℕ) (p : Problem) → WritesProblem text p → TextPlanningOptimal text p
demand_3_of_text text p writes =
    let of_words = demand_3 writes.words p writes.problem_of_words in
    record {
      planning = λ plan table plan_room table_room.
          rw (planned_as_words text p writes plan table)
          (optimal_numbers p _ _ _ (of_words.planning plan table plan_room table_room));
      drawings_pass_the_check = λ plan table.
          rw (checked_as_words text p writes plan table)
          (passes_iff _ (of_words.drawings_pass_the_check plan table));
    }
