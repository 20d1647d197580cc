-- No text has a listing of more than 51,200 bytes.
use Prim.Native.Nat.{ℕ, suc, pred, ◌+◌, ◌*◌, ◌≤◌, ◌<◌}
use Rattle.std.specs.Prelude.{Bool, true, false, cond, List, ◌≡◌, refl, Ok, Err}
use Rattle.std.proofs.Math.Option.{Option, none, some}
use Rattle.std.proofs.Common.{◌∙◌, div-le_self, mod-lt, mul-le-mul}
use native.Mathlib.Omega.{arith}
use Rattle.std.proofs.Math.ListN.{length, get_or, length-append}
use Rattle.laws.specs.JoinedLaws.{length-list_of, get_d-list_of}
use Rattle.laws.specs.Lists.{list_of, onto}
use Rattle.laws.specs.OntoLaws.{length_onto}
use Rattle.ranges.specs.Limits.{most_cores, most_levels, most_span, most_tasks}
use Rattle.instance.specs.Node.{Problem, level_count, task_count, span}
use Rattle.text.specs.NumberCountLaws.{most_text_words, read_words_at_most}
use Rattle.refusals.specs.Refusals.{Reading, number_of, place_of, accepted}
use Rattle.instance.specs.SiteFile.{problem_of}
use Rattle.instance.specs.SiteFileLaws.{accepted_is_valid}
use Rattle.instance.specs.SiteFileRefusals.{reading_refusal}
use Rattle.text.specs.Text.{words_of}
use Rattle.text.specs.TextRefusals.{text_refusal_place}
use Rattle.instance.specs.Valid.{Valid}
use Rattle.refusals.specs.declared.Refusal.{Refusal}
use Rattle.refusals.specs.declared.Refusal.TheVariants.{Text, WordCount, WordRange, SpanTooLong, NoPlan, ShortBuffer, GivenPlan, CoreOverloaded, GivenTable, JobSlots, SwitchingWord, CoreOrState, EarlyEnd, CalendarDate, NoSuchQuestion}
use Rattle.dispatch.specs.DispatchLaws.{slot_is_choice}
use Rattle.dispatch.specs.Earliest.{Choice}
use Rattle.plan_rules.specs.PlanLaws.{PassingPlan, passing_plan}
use Rattle.plan_rules.specs.Plans.{plan_passes}
use Rattle.prices.specs.PriceBounds.{penalty_at_most, passing_energy_at_most}
use Rattle.plan_rules.specs.QuantityBounds.{job_ticks_at_most}
use Rattle.plan_rules.specs.Quantities.{choice_at, is_refused, core_of, level_of, job_ticks}
use Rattle.prices.specs.Prices.{price_of}
use Rattle.dispatch.specs.Rows.{CoreTasks, slot_of}
use Rattle.tables.specs.TableLaws.{slot_at-table_of}
use Rattle.plan_rules.specs.CoreOfPlan.{core_tasks}
use Rattle.tables.specs.Tables.{table_of, slot_at}
use Rattle.planner.specs.BestPlanLaws.{best_plan_passes}
use Rattle.planner.specs.CostBounds.{passing_cost_below}
use Rattle.planner.specs.Planning.{best_plan}
use Rattle.listing_lines.specs.ListingLines.{refusal_line, cost_line, kept_line, refused_line, task_line, core_line, plan_lines}
use Rattle.listings.specs.Listing.{most_listing, listing_of_plan, listing_of_problem, listing_of_words, listing_of}
use Rattle.listings.specs.LineLengths.{Printable, refusal_line_at_most, span_line_at_most, cost_line_at_most, kept_line_at_most, refused_line_at_most, parts_at_most, core_line_at_most}

number_at_most : (r : Refusal) → number_of r ≤ 18
number_at_most (Text place) = omega arith
number_at_most (WordCount place) = omega arith
number_at_most (WordRange place) = omega arith
number_at_most (SpanTooLong place) = omega arith
number_at_most NoPlan = omega arith
number_at_most (ShortBuffer place) = omega arith
number_at_most (GivenPlan place) = omega arith
number_at_most (CoreOverloaded place) = omega arith
number_at_most (GivenTable place) = omega arith
number_at_most (JobSlots place) = omega arith
number_at_most (SwitchingWord place) = omega arith
number_at_most CoreOrState = omega arith
number_at_most EarlyEnd = omega arith
number_at_most (CalendarDate place) = omega arith
number_at_most NoSuchQuestion = omega arith

pub refusal_fits : (r : Refusal) → Printable (place_of r) → length (refusal_line r) ≤ most_listing
unfolding refusal_line
refusal_fits r place = omega (arith, refusal_line_at_most (number_of r) (place_of r) (omega (arith, number_at_most r)) place)

-- a slot names one of the core's tasks, or none
slot_at_most : (core : CoreTasks) (t : ℕ) → slot_of core t ≤ core.size
slot_at_most core t = go (slot_is_choice core t)
  where
    go : {due left : ℕ → ℕ} {n slot : ℕ} → Choice due left n slot → slot ≤ n
    go (Choice.idle none_left) = omega arith
    go (Choice.runs k below has first lower) = below

module _ (p : Problem) (v : Valid p) (plan : List ℕ) (passes : plan_passes p plan ≡ accepted) where
  passing : PassingPlan p plan
  passing = passing_plan p plan passes

  cost_fits : length (cost_line (price_of p plan)) ≤ 70
  unfolding price_of
  cost_fits =
      cost_line_at_most
      (price_of p plan)
      (omega (arith, passing_energy_at_most p v plan passing))
      (omega (arith, penalty_at_most p v plan))
      (omega (arith, passing_cost_below v plan passing))

  task_fits : (i : ℕ) → i < task_count p → length (task_line p plan i) ≤ 110
  unfolding task_line
  task_fits i h = go (is_refused plan i)
    where
      number : suc i ≤ most_tasks
      number = omega (arith, v.task_count_bound)

      core : core_of p plan i ≤ most_cores * most_levels
      core =
          omega (
            arith,
            div-le_self (pred (choice_at plan i)) (level_count p),
            passing.allowed.choices_in_range i h,
            mul-le-mul v.cores.at_most v.level_count_bound.at_most,
          )

      level : level_of p plan i < level_count p
      level = mod-lt (pred (choice_at plan i)) v.level_count_bound.at_least

      go : (given_up : Bool) →
          length (cond given_up (refused_line (suc i)) (kept_line (suc i) (suc (core_of p plan i)) (suc (level_of p plan i)) (job_ticks p plan i))) ≤ 110
      go true = refused_line_at_most (suc i) (omega (arith, number))
      go false =
          kept_line_at_most (suc i) _ _ _ (omega (arith, number)) (omega (arith, core)) (omega (arith, level, v.level_count_bound.at_most))
          (omega (arith, job_ticks_at_most p v plan i h))

  core_fits : (k : ℕ) → k < p.cores → length (core_line p (table_of p plan) k) ≤ 30 + most_span * 3
  unfolding core_line core_tasks
  core_fits k h =
      let slots = list_of (slot_at p (table_of p plan) k) (span p) in
      let long : length slots ≡ span p = length-list_of (slot_at p (table_of p plan) k) (span p) in
      let small : (t : ℕ) → t < length slots → get_or slots t 0 < 100 =
      λ t l.
      let below : t < span p = omega arith in
      let same = get_d-list_of (slot_at p (table_of p plan) k) (span p) t 0 below ∙ slot_at-table_of p plan k t h below in
      omega (arith, slot_at_most (core_tasks p plan k) t, v.task_count_bound) in
      omega (arith, core_line_at_most (suc k) slots (omega (arith, v.cores.at_most)) small, v.span_at_most)

  pub plan_fits : length (plan_lines p plan (table_of p plan)) ≤ most_listing
  unfolding plan_lines
  plan_fits =
      let spans = span_line_at_most (span p) (omega (arith, v.span_at_most)) in
      let tasks = parts_at_most (task_line p plan) 110 (task_count p) task_fits in
      let cores = parts_at_most (core_line p (table_of p plan)) (30 + most_span * 3) p.cores core_fits in
      simp length-append (omega (arith, spans, cost_fits, tasks, cores, v.task_count_bound, v.cores.at_most))

pub listing_of_plan_fits : (p : Problem) → Valid p → length (listing_of_plan p (best_plan p)) ≤ most_listing
listing_of_plan_fits p v = go (best_plan p) refl
  where
    go : (best : Option (List ℕ)) → best_plan p ≡ best → length (listing_of_plan p best) ≤ most_listing
    go none e = refusal_fits NoPlan (omega arith)
    go (some plan) e = plan_fits p v plan (best_plan_passes p e)

listing_of_problem_fits : (words : List ℕ) → length words ≤ most_text_words → length (listing_of_problem (problem_of words)) ≤ most_listing
listing_of_problem_fits words few = go (problem_of words) refl
  where
    go : (reading : Reading Problem) → problem_of words ≡ reading → length (listing_of_problem reading) ≤ most_listing
    go (Err r) e = refusal_fits r (omega (arith, (reading_refusal words e).place))
    go (Ok p) e = listing_of_plan_fits p (accepted_is_valid words e)

pub listing_at_most : (text : List ℕ) → length (listing_of text) ≤ most_listing
unfolding listing_of
listing_at_most text = go (words_of text) refl
  where
    go : (reading : Reading (List ℕ)) → words_of text ≡ reading → length (listing_of_words reading) ≤ most_listing
    go (Err r) e = refusal_fits r (omega (arith, text_refusal_place text e))
    go (Ok words) e = listing_of_problem_fits words (read_words_at_most text e)

-- once it is written, its bytes are the first n of the array
pub listing_within : (text out : List ℕ) {after : List ℕ} {n : ℕ} → most_listing ≤ length out →
    (n ≡ length (listing_of text)) × (after ≡ onto (listing_of text) out) → n ≤ length after
listing_within text out long listed =
    let few = listing_at_most text in rw (listed.1, length_onto (listing_of text) out (omega arith)) (omega arith)
