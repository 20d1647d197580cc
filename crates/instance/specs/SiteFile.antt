-- Document 01's section 'Site file', the words, with (a) and (c) of document 02: "sections stand in a fixed order, each after
-- its count", and of 'Refused input' the rows 2, 3 and 4: "words are taken from the front, each tested for 2, 3, 4".
use Rattle.std.specs.Prelude.{ℕ, suc, Bool, cond, ◌||◌, List, [], ◌∷◌, refl, leb, eqb, length, Ok, Err}
use Rattle.laws.specs.Multiples.{lcm}
use Rattle.ranges.specs.Limits
use Rattle.refusals.specs.Refusals.{Reading}
use Rattle.refusals.specs.declared.Refusal.TheVariants.{SpanTooLong}
use Rattle.formats.specs.Formats.{◌>>=◌, done, word, passing, tested, times, unless_ended, end}
use Rattle.formats.specs.Taking.{Taken, refused, taken, between}
use Rattle.formats.specs.Written.{Format}
use Rattle.instance.specs.Node.{Problem, no_level, span_from}
use Rattle.instance.specs.declared.Level.{Level}
use Rattle.instance.specs.declared.Task.{Task}
use Rattle.instance.specs.declared.site.Settings.{Settings}

-- 4 is the number of the one test that is not of a word alone
abbrev pub SiteFormat : Type 0 → Type 1
SiteFormat A = Format 4 A

-- a setting, 0 to `most`, that is given where the settings count `from` or more, and is 0 where they count fewer
unfoldable pub setting_from : (from most count : ℕ) → SiteFormat ℕ
setting_from from most count = cond (leb from count) (word 0 most) (done 0)

-- (a) "Settings may now count 4, the fourth word being idle power, 0 to 65,535; a count of 3 means 0."
abbrev pub idle_power : ℕ → SiteFormat ℕ
idle_power = setting_from Limits.settings_with_idle Limits.most_idle_power

-- (g) "Settings may count 5, the fifth word being start ticks, 0 to 1,000, and 0 when absent."
abbrev pub start_ticks : ℕ → SiteFormat ℕ
start_ticks = setting_from Limits.settings_with_start Limits.most_start_ticks

-- settings | 3, 4 or 5, then "energy weight 1 to 1,000; penalty weight 1 to 1,000; M 1 to 4"
unfoldable pub settings : SiteFormat Settings
settings = do
  count ← word Limits.settings_without_idle Limits.settings_with_start
  energy ← word 1 Limits.most_weight
  penalty ← word 1 Limits.most_weight
  cores ← word 1 Limits.most_cores
  idle ← idle_power count
  start ← start_ticks count
  done (record { weights = record { energy = energy; penalty = penalty }; cores = cores; idle = idle; start = start })

-- "speed 1 to 65,535, then power 1 to 65,535, for each level; both rise strictly from level to level": the level after
-- `before`
unfoldable pub level : Level → SiteFormat Level
level before = do
  speed ← word (suc before.speed) Limits.most_speed
  power ← word (suc before.power) Limits.most_power
  done (record { speed = speed; power = power })

-- the last of the levels, or `before` where there is none
unfoldable pub last_after : Level → List Level → Level
last_after before [] = before
last_after before (l ∷ ls) = last_after l ls

-- "levels | 1 to 8"
unfoldable pub levels : SiteFormat (List Level)
levels = do
  count ← word 1 Limits.most_levels
  times (λ before. level (last_after no_level before)) count []

-- "a period brings the span over 4,096": 4, with the period's index; `span` is that of the tasks before
unfoldable pub period : ℕ → SiteFormat ℕ
period span = tested (word 1 Limits.most_period) (λ p. leb (lcm span p) Limits.most_span) SpanTooLong (λ at. refl) (λ at. refl)

-- "penalty 1 to 1,000,000, or 4,294,967,295 for a task that may not be refused"
unfoldable pub is_penalty : ℕ → Bool
is_penalty w = between 1 Limits.most_penalty w || eqb w Limits.may_not_be_refused

-- a task, after tasks of this span; until a deadline is read it is due when its period ends
unfoldable pub task : ℕ → SiteFormat Task
task span = do
  p ← period span
  cycles ← word 1 Limits.most_cycles
  penalty ← passing is_penalty
  done (record { period = p; cycles = cycles; penalty = penalty; deadline = p })

-- "tasks | 0 to 12"
unfoldable pub tasks : SiteFormat (List Task)
tasks = do
  count ← word 0 Limits.most_tasks
  times (λ before. task (span_from 1 before)) count []

-- the same task with another deadline
abbrev pub due_within : ℕ → Task → Task
due_within d t = record { period = t.period; cycles = t.cycles; penalty = t.penalty; deadline = d }

-- (c) "each deadline from 1 to the task's period"
unfoldable pub with_deadline : Task → SiteFormat Task
with_deadline t = do
  d ← word 1 t.period
  done (due_within d t)

unfoldable pub with_deadlines : List Task → SiteFormat (List Task)
with_deadlines [] = done []
with_deadlines (t ∷ ts) = do
  due ← with_deadline t
  others ← with_deadlines ts
  done (due ∷ others)

-- "its count 0 or the number of tasks"
unfoldable pub is_deadline_count : ℕ → ℕ → Bool
is_deadline_count n count = eqb count 0 || eqb count n

-- "After the tasks comes a deadlines section": the tasks with their deadlines. "A count of 0 means deadline equals period",
-- as the tasks have it before.
unfoldable pub deadline_section : List Task → SiteFormat (List Task)
deadline_section ts = do
  count ← passing (is_deadline_count (length ts))
  cond (eqb count 0) (done ts) (with_deadlines ts)

-- "A list that ends after the tasks .. means deadline equals period."
unfoldable pub deadlines : List Task → SiteFormat (List Task)
deadlines ts = unless_ended ts (deadline_section ts)

-- "Its sections stand in a fixed order, each after its count", and no word is left over
unfoldable pub site_file : SiteFormat Problem
site_file = do
  s ← settings
  ls ← levels
  ts ← tasks
  due ← deadlines ts
  nothing ← end
  done (record { weights = s.weights; cores = s.cores; idle = s.idle; start = s.start; levels = ls; tasks = due })

abbrev pub reading_of : Taken Problem → Reading Problem
reading_of (refused r) = Err r
reading_of (taken p at words) = Ok p

-- the instance that a list of words is
unfoldable pub problem_of : List ℕ → Reading Problem
problem_of words = reading_of (site_file.take 0 words)
