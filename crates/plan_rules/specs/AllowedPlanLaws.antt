-- The plans that the test for refusal 7 accepts are the allowed ones.
use Rattle.refusals.specs.Refusals.{accepted}
use Rattle.std.specs.Prelude.{ℕ, ◌*◌, ◌≤◌, false, List, ◌↔◌, ◌≡◌}
use borrow.Author.Tests.{ltb-false, le-ltb, eqb-true, eq-eqb}
use Rattle.laws.specs.Truth.{false_not_true, not_true_is_false, and_is_true, or_is_false}
use Rattle.ranges.specs.Limits.{may_not_be_refused}
use Rattle.instance.specs.Node.{Problem, level_count, task_at}
use Rattle.plan_rules.specs.AllowedPlans.{AllowedPlan}
use Rattle.plan_rules.specs.Plans.{is_must, bad_choice, choices_pass}
use Rattle.plan_rules.specs.Quantities.{choice_at}
use Rattle.refusals.specs.VerdictLaws.{length_accepts, none_refused}

module _ (p : Problem) (plan : List ℕ) where
  choice_is_good : (i : ℕ) → (bad_choice p plan i ≡ false) ↔
      ((choice_at plan i ≤ p.cores * level_count p) × ((task_at p i).penalty ≡ may_not_be_refused → choice_at plan i ≡ 0 → ⊥))
  unfolding bad_choice is_must
  choice_is_good i = (
    λ e.
        let both = (or_is_false _ _).0 e in (
          ltb-false _ _ both.0,
          λ must none. false_not_true both.1 ((and_is_true _ _).1 (eq-eqb _ _ none, eq-eqb _ _ must)),
        ),
    λ good.
        (or_is_false _ _).1 (
          le-ltb _ _ good.0,
          not_true_is_false _ (λ e.
              let both = (and_is_true _ _).0 e in good.1 (eqb-true _ _ both.1) (eqb-true _ _ both.0)),
        ),
  )

  pub choices_pass-iff : (choices_pass p plan ≡ accepted) ↔ AllowedPlan p plan
  unfolding choices_pass
  choices_pass-iff = (
    λ e.
        let both = (length_accepts _ _ _ _).0 e in
        let good = (none_refused _ _ _).0 both.1 in
        record {
          one_choice_per_task = both.0;
          choices_in_range = λ i h. ((choice_is_good i).0 (good i h)).0;
          must_tasks_kept = λ i h. ((choice_is_good i).0 (good i h)).1;
        },
    λ allowed.
        (length_accepts _ _ _ _).1 (
          allowed.one_choice_per_task,
          (none_refused _ _ _).1 (λ i h. (choice_is_good i).1 (allowed.choices_in_range i h, allowed.must_tasks_kept i h)),
        ),
  )
