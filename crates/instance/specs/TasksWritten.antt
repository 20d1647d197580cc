-- The tasks: what is taken is valid, due when its period ends, of a span of at most 4,096, and written so; and what is so is
-- taken.
use Rattle.std.specs.Prelude.{ℕ, zero, suc, ◌≤◌, ◌<◌, ◌≡◌, refl, List, [], ◌∷◌, ◌++◌, length, get_or}
use Rattle.std.proofs.Common.{le_of_suc-le-suc, arith, leb-true, le-leb}
use Rattle.laws.specs.Multiples.{lcm}
use Rattle.laws.specs.MultiplesLaws.{lcm_above_zero}
use Rattle.ranges.specs.Limits
use Rattle.formats.specs.TimesLaws.{Many}
use Rattle.formats.specs.TimesLaws as TimesLaws
use Rattle.formats.specs.Written.{Written, then, nothing}
use Rattle.formats.specs.Written as Written
use Rattle.instance.specs.Node.{no_task, span_from}
use Rattle.instance.specs.PeriodEnds.{at_period_ends}
use Rattle.instance.specs.RangeLaws.{between_in_range, in_range_between, is_penalty_in_range, in_range_is_penalty}
use Rattle.instance.specs.SiteFile.{task, period, due_within}
use Rattle.instance.specs.SpanLaws.{span_of_more, so_far_at_most-span_from}
use Rattle.instance.specs.Valid.{ValidTask, words_of_tasks, DueAtPeriodEnd}
use Rattle.instance.specs.declared.Task.{Task}

-- the tasks that come after those `before`
abbrev pub EachTask : List Task → Written Task
EachTask before = (task (span_from 1 before)).Writes

abbrev pub EachValid : List Task → Type 0
EachValid ts = (i : ℕ) → i < length ts → ValidTask (get_or ts i no_task)

pub each_more : (t : Task) (ts : List Task) → ValidTask t → EachValid ts → EachValid (t ∷ ts)
each_more t ts here others zero l = here
each_more t ts here others (suc i) l = others i (le_of_suc-le-suc l)

due_more : (t : Task) (ts : List Task) → t.deadline ≡ t.period → DueAtPeriodEnd ts → DueAtPeriodEnd (t ∷ ts)
due_more t ts here others = record { each = each }
  where
    each : (i : ℕ) → i < length (t ∷ ts) → (get_or (t ∷ ts) i no_task).deadline ≡ (get_or (t ∷ ts) i no_task).period
    each zero l = here
    each (suc i) l = others.each i (le_of_suc-le-suc l)

pub record TasksWritten (span : ℕ) (ts : List Task) (words rest : List ℕ) : Type 0 where
  pub task : EachValid ts
  pub due : DueAtPeriodEnd ts
  pub span_at_most : span ≤ Limits.most_span → span_from span ts ≤ Limits.most_span
  pub written : words ≡ words_of_tasks ts ++ rest

pub tasks_written : {before ts : List Task} {words rest : List ℕ} → Many EachTask before ts words rest →
    TasksWritten (span_from 1 before) ts words rest
unfolding task period words_of_tasks span_from
tasks_written TimesLaws.none =
    record {
      task = λ i l. absurd (omega arith);
      due = record { each = λ i l. absurd (omega arith) };
      span_at_most = λ h. h;
      written = refl;
    }
tasks_written {before}
    (TimesLaws.one t {more = ts}
    (then (Written.tested (Written.word p p_passes) fits) (then (Written.word c c_passes) (then (Written.word e e_passes) nothing)))
    next) =
    let others = rw (span_of_more 1 before t) at (tasks_written next) in
    record {
      task =
          each_more t ts
          (record {
            period = between_in_range p_passes;
            cycles = between_in_range c_passes;
            penalty = is_penalty_in_range e_passes;
            deadline = record { at_least = (between_in_range p_passes).at_least; at_most = omega arith };
          })
          others.task;
      due = due_more t ts refl others.due;
      span_at_most = λ h. others.span_at_most (leb-true _ _ fits);
      written = rw others.written;
    }

pub valid_tasks : (before ts : List Task) (rest : List ℕ) → 0 < span_from 1 before → EachValid ts →
    span_from (span_from 1 before) ts ≤ Limits.most_span → Many EachTask before (at_period_ends ts) (words_of_tasks ts ++ rest) rest
unfolding task period words_of_tasks span_from at_period_ends
valid_tasks before [] rest above each fits = TimesLaws.none
valid_tasks before (t ∷ ts) rest above each fits =
    let valid = each 0 (omega arith) in
    let longer = lcm_above_zero (span_from 1 before) t.period valid.period.at_least in
    let others : EachValid ts = λ i l. each (suc i) (omega arith) in
    let grows = so_far_at_most-span_from (lcm (span_from 1 before) t.period) ts longer (λ i l. (others i l).period.at_least) in
    TimesLaws.one (due_within t.period t)
    (then
    (Written.tested (Written.word t.period (in_range_between valid.period)) (le-leb (lcm (span_from 1 before) t.period) Limits.most_span (omega arith)))
    (then (Written.word t.cycles (in_range_between valid.cycles))
    (then (Written.word t.penalty (in_range_is_penalty valid.penalty)) nothing)))
    (valid_tasks (before ++ (due_within t.period t ∷ [])) ts rest (rw span_of_more longer) others (rw span_of_more fits))
