-- The lines of the paper's section 'The listing program', each as its bytes.
use Rattle.std.specs.Prelude.{ℕ, suc, cond, List, [], ◌∷◌, ◌++◌, map}
use Prim.Native.String.{String}
use Rattle.laws.specs.Lists.{list_of, joined}
use Rattle.text.specs.Decimal.{decimal}
use Rattle.instance.specs.Node.{Problem, task_count, span}
use Rattle.refusals.specs.Refusals.{number_of, place_of}
use Rattle.refusals.specs.declared.Refusal.{Refusal}
use Rattle.plan_rules.specs.Quantities.{is_refused, core_of, level_of, job_ticks}
use Rattle.prices.specs.Prices.{price_of}
use Rattle.tables.specs.Tables.{slot_at}
use Rattle.prices.specs.declared.amounts.Price.{Price}
use Rattle.listing_lines.specs.Lines.{bytes, line}

-- a line whose fields are all numbers
unfoldable pub numbers_line : String → List ℕ → List ℕ
numbers_line word numbers = line word (map decimal numbers)

-- "A refusal prints one line, `refused`, its number and place."
unfoldable pub refusal_line : Refusal → List ℕ
refusal_line r = numbers_line "refused" (number_of r ∷ place_of r ∷ [])

-- "`span`: L."
unfoldable pub span_line : ℕ → List ℕ
span_line ticks = numbers_line "span" (ticks ∷ [])

-- "`cost`: energy, penalty, weighted cost."
unfoldable pub cost_line : Price → List ℕ
cost_line price = numbers_line "cost" (price.energy ∷ price.penalty ∷ price.cost ∷ [])

-- "number, then core, level and ticks .. `core`, `level` and `ticks` stand before their numbers"
unfoldable pub kept_line : ℕ → ℕ → ℕ → ℕ → List ℕ
kept_line number core level ticks =
    line "task" (decimal number ∷ bytes "core" ∷ decimal core ∷ bytes "level" ∷ decimal level ∷ bytes "ticks" ∷ decimal ticks ∷ [])

-- "or `refused`"
unfoldable pub refused_line : ℕ → List ℕ
refused_line number = line "task" (decimal number ∷ bytes "refused" ∷ [])

-- "One line per task": task i's number is suc i, and so for cores and levels
unfoldable pub task_line : Problem → List ℕ → ℕ → List ℕ
task_line p plan i =
    cond (is_refused plan i)
    (refused_line (suc i))
    (kept_line (suc i) (suc (core_of p plan i)) (suc (level_of p plan i)) (job_ticks p plan i))

-- "One line per core: its number, then its slots."
unfoldable pub core_line : Problem → List ℕ → ℕ → List ℕ
core_line p table k = numbers_line "core" (suc k ∷ list_of (slot_at p table k) (span p))

-- "tasks, then cores, go by number"
unfoldable pub plan_lines : Problem → List ℕ → List ℕ → List ℕ
plan_lines p plan table =
    span_line (span p)
    ++ (cost_line (price_of p plan) ++ (joined (task_line p plan) (task_count p) ++ joined (core_line p table) p.cores))
