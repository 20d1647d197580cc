-- Examples of document 02 (h): two penalties of one task, what planning answers with each, and the bound. And why it is the bound:
-- without the jobs, without the weight, or smaller by 1 it is refuted by one of them.
use Rattle.std.specs.Prelude.{ℕ, ◌+◌, ◌-◌, ◌*◌, ◌≤◌, ◌<◌, List, [], ◌∷◌, map, ◌≡◌, refl, Ok, Err}
use Rattle.std.proofs.Math.Option.{some}
use Rattle.std.proofs.Common.{arith}
use Rattle.ranges.specs.Limits.{most_penalty}
use Rattle.instance.specs.Node.{Problem, task_count, span, span_from}
use Rattle.refusals.specs.Refusals.{Reading, room}
use Rattle.formats.specs.Formats.{times}
use Rattle.formats.specs.Taking.{between, take_word, take_tested, take_unless_ended, take_end}
use Rattle.instance.specs.SiteFile.{problem_of, site_file, setting_from, settings, level, last_after, levels, period, is_penalty, task, tasks}
use Rattle.instance.specs.SiteFile.{with_deadline, with_deadlines, is_deadline_count, deadline_section, deadlines}
use Rattle.instance.specs.Valid.{InRange}
use Rattle.laws.specs.Lists.{joined, onto}
use Rattle.laws.specs.Multiples.{lcm}
use Rattle.laws.specs.Search.{first, every}
use Rattle.laws.specs.Sums.{sum}
use Rattle.plan_rules.specs.Plans.{is_must, bad_choice, choices_pass, fits, cores_fit, plan_passes}
use Rattle.plan_rules.specs.Quantities.{keeps, ticks, job_ticks, ticks_on, jobs, load_on, core_load}
use Rattle.prices.specs.Prices.{busy_energy, kept_count, is_awake, idle_ticks, core_energy, energy, penalty, cost, price_of}
use Rattle.edf.specs.Demand.{jobs_due, demand_at, meets_demand}
use Rattle.plan_rules.specs.CoreOfPlan.{core_tasks}
use Rattle.planner.specs.Outcomes.{plan_outcome}
use Rattle.planner.specs.Planning.{choice_lists, is_allowed, better, first_cheapest, best_plan}
use Rattle.penalties.specs.Penalties.{repriced, PlansRise, plans}
use Rattle.demands.specs.Cases.{Claim, plan, refusal, defined, site, usual, must}
use Rattle.demands.specs.PenaltyDemands.{BoundsOnePenalty}

pub record PenaltyCase : Type 0 where
  -- the words, with this penalty of the task, and which task it is, counted from 0
  pub words : ℕ → List ℕ
  pub task : ℕ
  -- what holds with the low penalty, and with the high one
  pub low : ℕ
  pub low_claim : Claim
  pub high : ℕ
  pub high_claim : Claim
  -- "penalty weight × that task's jobs × the difference"
  pub most : ℕ

abbrev case : (ℕ → List ℕ) → ℕ → ℕ → Claim → ℕ → Claim → ℕ → PenaltyCase
case ws i x at_low y at_high n =
    record { words = ws; task = i; low = x; low_claim = at_low; high = y; high_claim = at_high; most = n }

-- K1's tasks, with these penalties
abbrev k1_priced : ℕ → ℕ → List ℕ
k1_priced x y = 2 ∷ 10 ∷ 2400 ∷ x ∷ 20 ∷ 6000 ∷ y ∷ []

-- K1 with task 2's penalty 3,000 and 3,001: it costs more by exactly the bound
abbrev exact : PenaltyCase
exact = case (λ x. usual (k1_priced 5000 x)) 1 3000 (plan (2 ∷ 0 ∷ []) 5040) 3001 (plan (2 ∷ 0 ∷ []) 5041) 1

-- K1 with task 1's penalty 1 and 2: it has two jobs
abbrev two_jobs : PenaltyCase
two_jobs = case (λ x. usual (k1_priced x 3000)) 0 1 (plan (0 ∷ 2 ∷ []) 2552) 2 (plan (0 ∷ 2 ∷ []) 2554) 2

-- the same with weights 2 and 8
abbrev weighted : PenaltyCase
weighted = case (λ x. site 2 8 1 (k1_priced x 3000)) 0 1 (plan (0 ∷ 2 ∷ []) 5116) 2 (plan (0 ∷ 2 ∷ []) 5132) 16

abbrev pub cases : List PenaltyCase
cases =
    -- K1 with task 2's penalty 3,000 and 5,161
    case (λ x. usual (k1_priced 5000 x)) 1 3000 (plan (2 ∷ 0 ∷ []) 5040) 5161 (plan (3 ∷ 3 ∷ []) 7200) 2161 ∷
    exact ∷
    -- K2 with task 1's penalty 5,000 and 6,000
    case (λ x. usual (k1_priced x must)) 0 5000 (plan (3 ∷ 3 ∷ []) 7200) 6000 (plan (3 ∷ 3 ∷ []) 7200) 2000 ∷
    -- K10 with a third task of period 2 and one cycle
    case (λ x. usual (3 ∷ 2 ∷ 1000 ∷ must ∷ 2 ∷ 1001 ∷ must ∷ 2 ∷ 1 ∷ x ∷ [])) 2 1 (refusal 5 0) 1000000 (refusal 5 0) 999999 ∷
    two_jobs ∷
    weighted ∷
    []

-- the problem that was read; where words are refused, one without anything
abbrev problem_read : Reading Problem → Problem
problem_read (Ok p) = p
problem_read (Err r) =
    record { weights = record { energy = 0; penalty = 0 }; cores = 0; idle = 0; start = 0; levels = []; tasks = [] }

abbrev low_problem : PenaltyCase → Problem
low_problem c = problem_read (problem_of (c.words c.low))

-- the case as the definitions have it
abbrev worked : PenaltyCase → PenaltyCase
worked c =
    let p = low_problem c in
    case c.words c.task c.low (defined (c.words c.low) c.low_claim) c.high (defined (c.words c.high) c.high_claim)
    (p.weights.penalty * jobs p c.task * (c.high - c.low))

at_most : (low high : Problem) (most : ℕ) (best best₂ : List ℕ) → PlansRise low high most (some best) (some best₂) →
    cost high best₂ ≤ cost low best + most
at_most low high most best best₂ (plans _ _ rises) = rises.larger_by_at_most

-- what a bound says in a case
in_case : (bound : Problem → ℕ → ℕ → ℕ → ℕ) → BoundsOnePenalty bound → (c : PenaltyCase) →
    let p = low_problem c in
    let low = repriced p c.task c.low in
    let high = repriced p c.task c.high in
    (c.task < task_count p) × (1 ≤ c.low) × (c.low ≤ c.high) × (c.high ≤ most_penalty) →
    problem_of (c.words c.low) ≡ Ok low → problem_of (c.words c.high) ≡ Ok high →
    (best best₂ : List ℕ) → best_plan low ≡ some best → best_plan high ≡ some best₂ →
    cost high best₂ ≤ cost low best + bound p c.task c.low c.high
in_case bound bounds c (is_task, at_least, no_lower, most) low_read high_read best best₂ low_best high_best =
    let low_range : InRange 1 most_penalty c.low = record { at_least = at_least; at_most = omega arith } in
    let high_range : InRange 1 most_penalty c.high = record { at_least = omega arith; at_most = most } in
    let rises = (bounds (low_problem c) c.task c.low c.high is_task low_range high_range no_lower _ _ low_read high_read).best_plans in
    at_most _ _ _ best best₂ (rw (low_best, high_best) at rises)

pub record PenaltiesWorked : Type 0 where
  pub figures : map worked cases ≡ cases
  -- the words with the high penalty are read as the problem of those with the low one, but for that penalty
  pub alike : map (λ c. problem_of (c.words c.high)) cases ≡ map (λ c. Ok (repriced (low_problem c) c.task c.high)) cases
  -- without the jobs it is no bound, ..
  pub jobs_count : BoundsOnePenalty (λ p i x y. p.weights.penalty * (y - x)) → ⊥
  -- .. nor without the weight, ..
  pub weight_counts : BoundsOnePenalty (λ p i x y. jobs p i * (y - x)) → ⊥
  -- .. nor smaller by 1
  pub no_smaller : BoundsOnePenalty (λ p i x y. p.weights.penalty * jobs p i * (y - x) - 1) → ⊥

pub penalties_worked : PenaltiesWorked
unfolding problem_of site_file setting_from settings level last_after levels period
    is_penalty task tasks with_deadline with_deadlines is_deadline_count deadline_section deadlines
    times between take_word take_tested take_unless_ended take_end
    span span_from lcm first every joined onto sum room is_must bad_choice choices_pass
    jobs_due demand_at meets_demand fits cores_fit plan_passes
    keeps ticks job_ticks ticks_on jobs load_on core_load busy_energy kept_count is_awake idle_ticks core_energy energy penalty cost price_of
    core_tasks plan_outcome choice_lists is_allowed better first_cheapest best_plan repriced
penalties_worked =
    record {
      figures = refl;
      alike = refl;
      jobs_count = λ bounds.
          let h : 2554 ≤ 2552 + 1 = in_case _ bounds two_jobs (omega arith) refl refl _ _ refl refl in omega arith;
      weight_counts = λ bounds.
          let h : 5132 ≤ 5116 + 2 = in_case _ bounds weighted (omega arith) refl refl _ _ refl refl in omega arith;
      no_smaller = λ bounds.
          let h : 5041 ≤ 5040 + 0 = in_case _ bounds exact (omega arith) refl refl _ _ refl refl in omega arith;
    }
