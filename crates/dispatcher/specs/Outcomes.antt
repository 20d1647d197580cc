-- The whole outcome of dispatching, for every list of words: the verdict, the task to run and the next state; and how a call ends.
use Rattle.std.specs.Prelude.{ℕ, pred, Bool, cond, ◌&&◌, List, [], ◌∷◌, ◌≡◌, leb, ltb, Ok, Err}
use Rattle.refusals.specs.Endings.{Ends, read_then}
use Rattle.instance.specs.Node.{Problem, span}
use Rattle.refusals.specs.Refusals.{Reading, ◌and_then◌, Verdict, accepted}
use Rattle.instance.specs.SiteFile.{problem_of}
use Rattle.refusals.specs.declared.Refusal.{Refusal}
use Rattle.refusals.specs.declared.Refusal.TheVariants.{CoreOrState}
use Rattle.plan_rules.specs.CoreOfPlan.{core_tasks}
use Rattle.plan_rules.specs.Plans.{plan_passes}
use Rattle.dispatcher.specs.States.{call_passes, dispatched_where}
use Rattle.dispatcher.specs.declared.DispatchState.{DispatchState}
use Rattle.dispatcher.specs.declared.Dispatched.{Dispatched}

-- 12: "a core out of range"; the cores have the numbers 1 to M
unfoldable pub core_passes : Problem → ℕ → Verdict
core_passes p core = cond (ltb 0 core && leb core p.cores) accepted (Err CoreOrState)

-- "For one core of an accepted, fitting plan": 7 and 8, then 12 of the core
abbrev pub preparing_tests : Problem → List ℕ → ℕ → Verdict
preparing_tests p plan core = plan_passes p plan and_then core_passes p core

-- then 12 of the state, then 13
abbrev pub dispatch_tests : Problem → List ℕ → ℕ → DispatchState → Bool → Verdict
dispatch_tests p plan core s ended =
    plan_passes p plan and_then core_passes p core and_then call_passes (core_tasks p plan (pred core)) (span p) s ended

abbrev pub dispatch_outcome_of : Reading Problem → List ℕ → ℕ → DispatchState → Bool → Dispatched
dispatch_outcome_of (Err r) plan core s ended = record { verdict = Err r; task = 0; state = s }
dispatch_outcome_of (Ok p) plan core s ended =
    dispatched_where (dispatch_tests p plan core s ended) (core_tasks p plan (pred core)) (span p) s ended

unfoldable pub dispatch_outcome : (words plan : List ℕ) → ℕ → DispatchState → Bool → Dispatched
dispatch_outcome words plan core s ended = dispatch_outcome_of (problem_of words) plan core s ended

-- a call with these tests in this order, and these numbers. Nothing is lent but to be read, and a refusal answers no task and the
-- state as handed in.
pub record DispatchEnds (tests : Verdict) (numbers : List ℕ) (s : DispatchState) (d : Dispatched) : Type 0 where
  pub as_tested : Ends tests numbers [] d.verdict
  pub refused_as_handed_in : (r : Refusal) → d.verdict ≡ Err r → (d.task ≡ 0) × (d.state ≡ s)

-- 2, 3, 4; 7, 8; 12; 13
abbrev pub DispatchingEnds : (words plan : List ℕ) → ℕ → DispatchState → Bool → Dispatched → Type 0
DispatchingEnds words plan core s ended =
    DispatchEnds (read_then (problem_of words) (λ p. dispatch_tests p plan core s ended)) (2 ∷ 3 ∷ 4 ∷ 7 ∷ 8 ∷ 12 ∷ 13 ∷ []) s
