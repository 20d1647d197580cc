-- The numbers that the calls of a program in C return: those of the paper, for what each call answers.
use Rattle.refusals.specs.declared.Refusal.{Refusal}
use Rattle.std.specs.Prelude.{ℕ, Result, Ok, Err}
use Rattle.refusals.specs.Refusals.{Reading, number_of, place_of, Verdict}
use Rattle.instance.specs.Node.{Problem, level_count, task_count, span}
use Rattle.calendar.specs.declared.PlanDays.{PlanDays}
use Rattle.prices.specs.declared.amounts.Price.{Price}
use Rattle.answers.specs.declared.Checked.{Checked}
use Rattle.answers.specs.declared.Listed.{Listed}
use Rattle.answers.specs.declared.Planned.{Planned}
use Rattle.answers.specs.declared.Ruled.{Ruled}
use Rattle.answers.specs.declared.Site.{Site}
use Rattle.answers.specs.declared.TaskToRun.{TaskToRun}

-- a refusal's number and place, or 0 and 0 with how large the instance is
abbrev pub site_of : Reading Problem → Site
site_of (Err r) = record { refusal = number_of r; place = place_of r; tasks = 0; levels = 0; cores = 0; span = 0 }
site_of (Ok p) =
    record { refusal = 0; place = 0; tasks = task_count p; levels = level_count p; cores = p.cores; span = span p }

-- "returns energy, penalty and cost"
abbrev pub planned_of : Result Price Refusal → Planned
planned_of (Ok price) =
    record { refusal = 0; place = 0; energy = price.energy; penalty = price.penalty; cost = price.cost }
planned_of (Err r) = record { refusal = number_of r; place = place_of r; energy = 0; penalty = 0; cost = 0 }

abbrev pub checked_of : Verdict → Checked
checked_of (Ok tt) = record { refusal = 0; place = 0 }
checked_of (Err r) = record { refusal = number_of r; place = place_of r }

-- how many bytes the listing has
abbrev pub listed_of : Result ℕ Refusal → Listed
listed_of (Ok n) = record { refusal = 0; place = 0; length = n }
listed_of (Err r) = record { refusal = number_of r; place = place_of r; length = 0 }

-- the task to run, 0 where the call is refused
abbrev pub task_to_run_of : Verdict → ℕ → TaskToRun
task_to_run_of (Ok tt) task = record { refusal = 0; place = 0; task = task }
task_to_run_of (Err r) task = record { refusal = number_of r; place = place_of r; task = task }

-- "Answer the plan .. and the days to the first entry of a later date"
abbrev pub ruled_of : Result PlanDays Refusal → Ruled
ruled_of (Ok ruling) = record { refusal = 0; place = 0; plan = ruling.plan; days = ruling.days }
ruled_of (Err r) = record { refusal = number_of r; place = place_of r; plan = 0; days = 0 }
