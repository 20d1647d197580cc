-- A problem as the search has it. A pattern, what one core runs, is a plan on the first core alone: whether a core admits it and
-- what it costs is said by that core's fit and energy.
use Rattle.std.specs.Prelude.{ℕ, ◌*◌, ◌/◌, List, map, eqb}
use Rattle.laws.specs.Lists.{list_of}
use Rattle.ranges.specs.Limits.{may_not_be_refused}
use Rattle.instance.specs.Node.{Problem, level_count, level_at, task_at, task_count, span}
use Rattle.instance.specs.declared.Task.{Task}
use Rattle.plan_rules.specs.Plans.{fits}
use Rattle.plan_rules.specs.Quantities.{ticks}
use Rattle.prices.specs.Prices.{core_energy}
use Rattle.assignment.specs.Assignment.{Item, Options}
use Rattle.knapsack.specs.Offers.{Offer}
use Rattle.core_tables.specs.AwakeCores.{alone_cost}

-- "Jobs in a span: L / p."
unfoldable pub jobs_of : Problem → Task → ℕ
jobs_of p t = span p / t.period

unfoldable pub item_of : Problem → Task → Item
item_of p t =
    record {
      refusal = p.weights.penalty * (jobs_of p t * t.penalty);
      must = eqb t.penalty may_not_be_refused;
    }

-- "jobs × ticks": what the task asks of a core over a span, at level l
unfoldable pub load_at : Problem → Task → ℕ → ℕ
load_at p t l = jobs_of p t * ticks p.start t.cycles (level_at p l).speed

-- what a task asks of a core at each level, and the weighted energy of its busy ticks
unfoldable pub offer_of : Problem → Task → Offer
offer_of p t =
    record {
      load = load_at p t;
      cost = λ l. p.weights.energy * (load_at p t l * (level_at p l).power);
    }

-- of every task
unfoldable pub offers_in : Problem → List Offer
offers_in p = list_of (λ i. offer_of p (task_at p i)) (task_count p)

-- what an idle tick of an awake core costs
unfoldable pub idle_cost : Problem → ℕ
idle_cost p = p.weights.energy * p.idle

-- what the knapsacks are offered a task at: its cost alone on an awake core
abbrev pub offered_cost : Problem → Task → ℕ → ℕ
offered_cost p t = alone_cost (span p) (idle_cost p) (offer_of p t)

unfoldable pub options_of : Problem → Options
options_of p =
    record {
      cores = p.cores;
      levels = level_count p;
      items = map (item_of p) p.tasks;
      admits = λ pattern. fits p pattern 0;
      core_cost = λ pattern. p.weights.energy * core_energy p pattern 0;
    }
