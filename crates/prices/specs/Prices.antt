-- Document 01's section 'What is computed', its second half, with (a) of document 02: energy, penalty and cost of a plan.
use Rattle.std.specs.Prelude.{ℕ, ◌+◌, ◌-◌, ◌*◌, Bool, cond, List, ltb}
use Rattle.laws.specs.Sums.{sum}
use Rattle.instance.specs.Node.{Problem, task_count, level_at, task_at, span}
use Rattle.prices.specs.declared.amounts.Price.{Price}
use Rattle.plan_rules.specs.Quantities.{is_refused, level_of, keeps, jobs, load_on, core_load}

-- "Energy of a kept task: jobs × ticks × P.": what core k draws in its busy ticks
unfoldable pub busy_energy : Problem → List ℕ → ℕ → ℕ
busy_energy p plan k = sum (λ i. load_on p plan k i * (level_at p (level_of p plan i)).power) (task_count p)

-- how many tasks the plan keeps on core k
unfoldable pub kept_count : Problem → List ℕ → ℕ → ℕ
kept_count p plan k = sum (λ i. cond (keeps p plan k i) 1 0) (task_count p)

-- "A core with a kept task": such a core is awake. "A core without one is off"
unfoldable pub is_awake : Problem → List ℕ → ℕ → Bool
is_awake p plan k = ltb 0 (kept_count p plan k)

-- the ticks of the span that the jobs of an awake core leave; none on an overloaded core, which no plan that is priced has
unfoldable pub idle_ticks : Problem → List ℕ → ℕ → ℕ
idle_ticks p plan k = cond (is_awake p plan k) (span p - core_load p plan k) 0

-- (a) "A core with a kept task pays idle power for each idle tick of the span. A core without one is off and pays nothing."
unfoldable pub core_energy : Problem → List ℕ → ℕ → ℕ
core_energy p plan k = busy_energy p plan k + p.idle * idle_ticks p plan k

unfoldable pub energy : Problem → List ℕ → ℕ
energy p plan = sum (core_energy p plan) p.cores

-- "Penalty of a refused one: jobs × its penalty."
unfoldable pub penalty : Problem → List ℕ → ℕ
penalty p plan = sum (λ i. cond (is_refused plan i) (jobs p i * (task_at p i).penalty) 0) (task_count p)

-- "Cost: energy weight × all energy + penalty weight × all penalty."
unfoldable pub cost : Problem → List ℕ → ℕ
cost p plan = p.weights.energy * energy p plan + p.weights.penalty * penalty p plan

unfoldable pub price_of : Problem → List ℕ → Price
price_of p plan = record { energy = energy p plan; penalty = penalty p plan; cost = cost p plan }
