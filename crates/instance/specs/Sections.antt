-- What code holds of each section of the site file once it has taken it.
use Rattle.std.specs.Prelude.{ℕ, ◌≤◌, ◌<◌, ◌≡◌, List, length, take, drop, Result, Ok, IfOk}
use Rattle.laws.specs.Multiples.{lcm}
use Rattle.laws.specs.PaddedLaws.{Filled}
use Rattle.ranges.specs.Limits
use Rattle.refusals.specs.Refusals.{Verdict}
use Rattle.refusals.specs.declared.Refusal.{Refusal}
use Rattle.formats.specs.Readers.{Left, Takes, mapped, Repeats}
use Rattle.instance.specs.Node.{no_level, no_task, span_from}
use Rattle.instance.specs.SiteFile.{SiteFormat, level, last_after, levels, task, tasks, with_deadlines, deadlines}
use Rattle.instance.specs.declared.Level.{Level}
use Rattle.instance.specs.declared.Task.{Task}
use Rattle.instance.specs.declared.levels.Levels.{Levels}
use Rattle.instance.specs.declared.tasks.Tasks.{Tasks}

pub record LevelWithinLimits (l : Level) : Type 0 where
  pub speed : l.speed ≤ Limits.most_speed
  pub power : l.power ≤ Limits.most_power

pub record TakesLevel (start : Left) (before : Level) (result : Result Level Refusal) (after : Left) : Type 0 where
  pub takes : Takes start (level before).take result after
  pub within : IfOk result LevelWithinLimits

-- the format of each level, after those before it
abbrev pub each_level : List Level → SiteFormat Level
each_level before = level (last_after no_level before)

-- i of `count` levels are taken, the last of them is `before`, and the others follow
pub record LevelsSoFar (count : ℕ) (start now : Left) (array : List Level) (before : Level) (i : ℕ) : Type 0 where
  pub count_within : count ≤ Limits.most_levels
  pub at_most : i ≤ count
  pub filled : Filled Limits.most_levels no_level array i
  pub last : before ≡ last_after no_level (take i array)
  pub within : LevelWithinLimits before
  pub repeats : Repeats each_level count i start (take i array) now

abbrev pub levels_in : Levels → List Level
levels_in l = take l.count l.array

pub record TakesLevels (start : Left) (result : Result Levels Refusal) (after : Left) : Type 0 where
  pub takes : Takes start levels.take (mapped levels_in result) after
  pub filled : IfOk result (λ l. Filled Limits.most_levels no_level l.array l.count)

-- a span that another period may be put to without overflow
pub record SpanWithinLimits (span : ℕ) : Type 0 where
  pub above_zero : 0 < span
  pub at_most : span ≤ Limits.most_span

pub record TakesTask (start : Left) (span : ℕ) (result : Result Task Refusal) (after : Left) (longer : ℕ) : Type 0 where
  pub takes : Takes start (task span).take result after
  pub spans : IfOk result (λ t. longer ≡ lcm span t.period)
  pub within : SpanWithinLimits longer

-- the format of each task, after those before it
abbrev pub each_task : List Task → SiteFormat Task
each_task before = task (span_from 1 before)

-- i of `count` tasks are taken, `span` is theirs, and the others follow
pub record TasksSoFar (count : ℕ) (start now : Left) (array : List Task) (span i : ℕ) : Type 0 where
  pub count_within : count ≤ Limits.most_tasks
  pub at_most : i ≤ count
  pub filled : Filled Limits.most_tasks no_task array i
  pub spans : span ≡ span_from 1 (take i array)
  pub within : SpanWithinLimits span
  pub repeats : Repeats each_task count i start (take i array) now

abbrev pub tasks_in : Tasks → List Task
tasks_in t = take t.count t.array

-- `count` tasks stand at the front of the array
pub record TasksHeld (array : List Task) (count : ℕ) : Type 0 where
  pub count_within : count ≤ Limits.most_tasks
  pub filled : Filled Limits.most_tasks no_task array count

pub record TasksRead (t : Tasks) : Type 0 where
  pub held : TasksHeld t.array t.count
  pub spans : t.span ≡ span_from 1 (tasks_in t)

pub record TakesTasks (start : Left) (result : Result Tasks Refusal) (after : Left) : Type 0 where
  pub takes : Takes start tasks.take (mapped tasks_in result) after
  pub read : IfOk result TasksRead

-- i of the tasks `before` have their deadlines, and those of the others follow
pub record DeadlinesSoFar (start now : Left) (before after : List Task) (i : ℕ) : Type 0 where
  pub same_length : length after ≡ length before
  pub takes : Takes start (with_deadlines (take i before)).take (Ok (take i after)) now
  pub others : drop i after ≡ drop i before

-- these tasks get their deadlines
pub record DatesTasks (start : Left) (before : List Task) (result : Verdict) (now : Left) (after : List Task) : Type 0 where
  pub takes : Takes start (with_deadlines before).take (mapped (λ u. after) result) now
  pub same_length : length after ≡ length before

-- the tasks get their deadlines, by the section where there is one
pub record TakesDeadlines (start : Left) (before : Tasks) (result : Verdict) (now : Left) (after : Tasks) : Type 0 where
  pub takes : Takes start (deadlines (tasks_in before)).take (mapped (λ u. tasks_in after) result) now
  pub same_count : after.count ≡ before.count
  pub same_span : after.span ≡ before.span
  pub filled : Filled Limits.most_tasks no_task after.array after.count
