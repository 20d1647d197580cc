-- Which refusals the tests of a plan can return, by number.
use Rattle.std.specs.Prelude.{ℕ, List, [], ◌∷◌, refl, ltb, length}
use mathlib.Core.List.Memᴰ
use Rattle.laws.specs.Search.{first}
use Rattle.instance.specs.Node.{Problem, task_count}
use Rattle.refusals.specs.RefusalNumbers.{RefusesOnly, and_then-refuses, refuses_if, fails_at}
use Rattle.refusals.specs.declared.Refusal.TheVariants.{GivenPlan, CoreOverloaded}
use Rattle.plan_rules.specs.Plans.{bad_choice, choices_pass, cores_fit, plan_passes}

module _ (p : Problem) (plan : List ℕ) where
  pub choices_refuse_7 : RefusesOnly (7 ∷ []) (choices_pass p plan)
  unfolding choices_pass
  choices_refuse_7 = fails_at GivenPlan (7 ∷ []) (λ place. Memᴰ.head refl) (bad_choice p plan) (length plan) (task_count p)

  cores_refuse_8 : RefusesOnly (8 ∷ []) (cores_fit p plan)
  unfolding cores_fit
  cores_refuse_8 = refuses_if (CoreOverloaded _) (Memᴰ.head refl) (ltb (first _ p.cores) _)

  pub plan_refuses_7_8 : RefusesOnly (7 ∷ 8 ∷ []) (plan_passes p plan)
  unfolding plan_passes
  plan_refuses_7_8 = and_then-refuses choices_refuse_7 cores_refuse_8
