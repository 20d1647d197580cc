-- The answered plan is the one best plan of the problem's options, and none is answered exactly where none is allowed.
use Rattle.std.specs.Prelude.{ℕ, true, ◌↔◌, ◌≡◌, refl, length, Ok, Err}
use mathlib.Core.List.{List, Memᴰ}
use Rattle.std.proofs.Math.Option.{Option, none, some}
use Rattle.std.proofs.Common.{ap}
use Rattle.laws.specs.Truth.{false_not_true}
use Rattle.instance.specs.Node.{Problem, task_count}
use Rattle.refusals.specs.Refusals.{Verdict, accepted}
use Rattle.plan_rules.specs.Plans.{most_choice, plan_passes}
use Rattle.assignment.specs.Assignment.{Item, Options, ChoicesAllowed, Allowed, NoWorse, Best}
use Rattle.assignment.specs.SearchTheorem.{best_unique}
use Rattle.planner.specs.Planning.{passes, is_allowed, best_plan, choice_lists}
use Rattle.offers.specs.OptionsOf.{options_of}
use Rattle.planner.specs.OptionsLaws.{item_count, passing_choices, passing_is_allowed}
use Rattle.planner.specs.CostLaws.{cost_is_total}
use Rattle.planner.specs.CheapestLaws.{NoWorsePlan, Found, found, missing, first_cheapest-found}
use Rattle.planner.specs.ChoiceListLaws.{Choices, listed_iff, choice_lists-ascend}

passes_iff : (v : Verdict) → (passes v ≡ true) ↔ (v ≡ accepted)
passes_iff (Ok tt) = (λ e. refl, λ e. refl)
passes_iff (Err r) = (λ e. absurd (false_not_true refl e), λ e. ap passes e)

choices_in_range : {most : ℕ} {items : List Item} {plan : List ℕ} → ChoicesAllowed most items plan → Choices most (length items) plan
choices_in_range ChoicesAllowed.none = Choices.none
choices_in_range (ChoicesAllowed.more here rest) = Choices.more here.in_range (choices_in_range rest)

-- the right answer: the best plan, or none where none is allowed
pub data Answer (o : Options) : Option (List ℕ) → Type 0 where
  best : {plan : List ℕ} → Best o plan → Answer o (some plan)
  nothing : ((plan : List ℕ) → Allowed o plan → ⊥) → Answer o none

-- there is one right answer
answer_unique : {o : Options} {a b : Option (List ℕ)} → Answer o a → Answer o b → a ≡ b
answer_unique {o} (best x) (best y) = ap some (best_unique o x y)
answer_unique (best x) (nothing none_allowed) = absurd (none_allowed _ x.allowed)
answer_unique (nothing none_allowed) (best y) = absurd (none_allowed _ y.allowed)
answer_unique (nothing none_allowed) (nothing likewise) = refl

answered_is_best : {o : Options} {plan : List ℕ} → Answer o (some plan) → Best o plan
answered_is_best (best x) = x

none_answered : {o : Options} → Answer o none → (plan : List ℕ) → Allowed o plan → ⊥
none_answered (nothing none_allowed) = none_allowed

module _ (p : Problem) where
  is_allowed-iff : (plan : List ℕ) → (is_allowed p plan ≡ true) ↔ Allowed (options_of p) plan
  unfolding is_allowed
  is_allowed-iff plan = (
    λ e. (passing_is_allowed p plan).0 ((passes_iff _).0 e),
    λ allowed. (passes_iff _).1 ((passing_is_allowed p plan).1 allowed),
  )

  allowed_is_tried : (plan : List ℕ) → Allowed (options_of p) plan → Memᴰ plan (choice_lists (most_choice p) (task_count p))
  unfolding options_of
  allowed_is_tried plan allowed = (listed_iff _ _ _).1 (rw (item_count p) at (choices_in_range allowed.choices))

  pub choice_count : {plan : List ℕ} → Allowed (options_of p) plan → length plan ≡ task_count p
  choice_count {plan} allowed = (passing_choices p plan ((passing_is_allowed p plan).1 allowed)).one_choice_per_task

  no_worse_plan_is_no_worse : {plan other : List ℕ} → Allowed (options_of p) plan → Allowed (options_of p) other →
      NoWorsePlan p plan other → NoWorse (options_of p) plan other
  unfolding options_of
  no_worse_plan_is_no_worse {plan} {other} allowed rival ahead =
      rw (cost_is_total p plan (choice_count allowed), cost_is_total p other (choice_count rival)) at ahead

  answer_of_found : {answer : Option (List ℕ)} → Found p (choice_lists (most_choice p) (task_count p)) answer → Answer (options_of p) answer
  answer_of_found (found {plan} listed passes ahead) =
      let allowed = (is_allowed-iff plan).0 passes in
      best
      (record {
        allowed = allowed;
        no_worse = λ other rival.
            no_worse_plan_is_no_worse allowed rival (ahead other (allowed_is_tried other rival) ((is_allowed-iff other).1 rival));
      })
  answer_of_found (missing none_allowed) =
      nothing (λ plan allowed. none_allowed plan (allowed_is_tried plan allowed) ((is_allowed-iff plan).1 allowed))

  pub best_plan-answers : Answer (options_of p) (best_plan p)
  unfolding best_plan
  best_plan-answers = answer_of_found (first_cheapest-found p (choice_lists-ascend (most_choice p) (task_count p)))

  pub best_plan_is_best : {plan : List ℕ} → best_plan p ≡ some plan → Best (options_of p) plan
  best_plan_is_best e = answered_is_best (rw e at best_plan-answers)

  pub no_best_plan : best_plan p ≡ none → (plan : List ℕ) → Allowed (options_of p) plan → ⊥
  no_best_plan e = none_answered (rw e at best_plan-answers)

  pub best_is_best_plan : {plan : List ℕ} → Best (options_of p) plan → best_plan p ≡ some plan
  best_is_best_plan b = answer_unique best_plan-answers (best b)

  pub none_is_none : ((plan : List ℕ) → Allowed (options_of p) plan → ⊥) → best_plan p ≡ none
  none_is_none none_allowed = answer_unique best_plan-answers (nothing none_allowed)

  pub best_plan_passes : {plan : List ℕ} → best_plan p ≡ some plan → plan_passes p plan ≡ accepted
  best_plan_passes {plan} e = (passing_is_allowed p plan).1 (best_plan_is_best e).allowed
