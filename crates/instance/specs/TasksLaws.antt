-- Code that takes the tasks: how it begins, goes on and ends.
use Rattle.std.specs.Prelude.{ℕ, ◌+◌, ◌≤◌, ◌<◌, ◌≡◌, refl, List, [], take, set, replicate, Ok, Err}
use Rattle.std.proofs.Common.{arith}
use Rattle.laws.specs.PaddedLaws.{filled_none, filled_more, front_more}
use Rattle.ranges.specs.Limits
use Rattle.refusals.specs.declared.Refusal.{Refusal}
use Rattle.formats.specs.ReaderLaws.{repeats_start, repeats_more, repeats_refused, repeats_end}
use Rattle.formats.specs.Readers.{Left, Takes}
use Rattle.formats.specs.Formats.{times}
use Rattle.instance.specs.Node.{no_task, span_from}
use Rattle.instance.specs.Sections.{TakesTask, each_task, TasksSoFar, TasksHeld}
use Rattle.instance.specs.SpanLaws.{span_of_more}
use Rattle.instance.specs.declared.Task.{Task}

pub tasks_begin : (count : ℕ) (start : Left) → count ≤ Limits.most_tasks →
    TasksSoFar count start start (replicate Limits.most_tasks no_task) 1 0
unfolding span_from
tasks_begin count start few =
    record {
      count_within = few;
      at_most = omega arith;
      filled = filled_none Limits.most_tasks no_task;
      spans = refl;
      within = omega arith;
      repeats = repeats_start each_task;
    }

module _ {count : ℕ} {start now : Left} {array : List Task} {span i : ℕ} (so_far : TasksSoFar count start now array span i) where
  pub tasks_more : {t : Task} {after : Left} {longer : ℕ} → i < count → TakesTask now span (Ok t) after longer →
      TasksSoFar count start after (set array i t) longer (i + 1)
  tasks_more {t} below one =
      let room : i < Limits.most_tasks = omega (arith, so_far.count_within) in
      let front = front_more Limits.most_tasks no_task array i t room so_far.filled in
      record {
        count_within = so_far.count_within;
        at_most = omega arith;
        filled = filled_more Limits.most_tasks no_task array i t room so_far.filled;
        spans = rw (front, span_of_more, ← so_far.spans) one.spans;
        within = one.within;
        repeats = rw front (repeats_more each_task so_far.repeats below (rw so_far.spans at one.takes));
      }

  pub tasks_refused : {r : Refusal} {after end : Left} {longer : ℕ} → i < count → TakesTask now span (Err r) after longer →
      Takes start (times each_task count []).take (Err r) end
  tasks_refused below one = repeats_refused each_task so_far.repeats below (rw so_far.spans at one.takes)

  module _ (all_taken : count ≤ i) where
    all_are : i ≡ count
    all_are = omega (arith, so_far.at_most)

    pub tasks_end : Takes start (times each_task count []).take (Ok (take count array)) now
    tasks_end = rw all_are at (repeats_end each_task so_far.repeats all_taken)

    pub tasks_held : TasksHeld array count
    tasks_held = record { count_within = so_far.count_within; filled = rw all_are at so_far.filled }

    pub tasks_spans : span ≡ span_from 1 (take count array)
    tasks_spans = rw all_are at so_far.spans
