-- A problem's plans are the plans of its options: those that pass are those that are allowed.
use Rattle.refusals.specs.Refusals.{accepted}
use Rattle.std.specs.Prelude.{ℕ, ◌+◌, ◌≤◌, ◌<◌, true, List, [], ◌∷◌, ◌↔◌, ◌≡◌, length, get_or}
use Rattle.std.proofs.Math.Path.{sym}
use Rattle.std.proofs.Common.{◌∙◌}
use Rattle.std.proofs.Math.ListN.{length-map, get_or-map}
use borrow.Author.Tests.{eqb-true, eq-eqb, not-false}
use Rattle.laws.specs.SumOrderLaws.{total_is_sum}
use Rattle.laws.specs.Sums.{sum}
use Rattle.ranges.specs.Limits.{may_not_be_refused}
use Rattle.instance.specs.Node.{Problem, level_count, task_count, task_at, no_task}
use Rattle.instance.specs.declared.Task.{Task}
use Rattle.plan_rules.specs.AllowedPlanLaws.{choices_pass-iff}
use Rattle.plan_rules.specs.AllowedPlans.{AllowedPlan}
use Rattle.plan_rules.specs.Plans.{most_choice, choices_pass, fits, cores_fit, plan_passes}
use Rattle.plan_rules.specs.Quantities.{choice_at}
use Rattle.refusals.specs.VerdictLaws.{and_then-accepts, none_refused}
use Rattle.assignment.specs.Assignment.{Item, core_pattern, ChoiceAllowed, ChoicesAllowed, Allowed}
use Rattle.planner.specs.CorePatternLaws.{fits_of_pattern}
use Rattle.planner.specs.ChoiceLaws.{AllowedAt, allowed_at, at_allowed}
use Rattle.offers.specs.OptionsOf.{item_of, options_of}

module _ (p : Problem) where
  pub item_count : length (options_of p).items ≡ task_count p
  unfolding options_of
  item_count = length-map p.tasks (item_of p)

  pub item_at_lem : (i : ℕ) → get_or (options_of p).items i (item_of p no_task) ≡ item_of p (task_at p i)
  unfolding options_of
  item_at_lem i = get_or-map (item_of p) p.tasks i no_task

  -- a choice that task t may have
  GoodChoice : Task → ℕ → Type 0
  GoodChoice t c = (c ≤ most_choice p) × (t.penalty ≡ may_not_be_refused → c ≡ 0 → ⊥)

  choice_allowed_iff : (t : Task) (c : ℕ) → ChoiceAllowed (most_choice p) (item_of p t) c ↔ GoodChoice t c
  unfolding item_of GoodChoice
  choice_allowed_iff t c = (
    λ allowed. (allowed.in_range, λ must. allowed.kept (eq-eqb _ _ must)),
    λ good. record { in_range = good.0; kept = λ must. good.1 (eqb-true _ _ must) },
  )

  AllowedItems : List ℕ → Type 0
  AllowedItems plan = AllowedAt (item_of p no_task) (most_choice p) (options_of p).items plan

  good_choice_at : (plan : List ℕ) → AllowedItems plan → (i : ℕ) → i < task_count p → GoodChoice (task_at p i) (choice_at plan i)
  unfolding AllowedItems
  good_choice_at plan allowed i h =
      (choice_allowed_iff (task_at p i) (choice_at plan i)).0 (rw item_at_lem at (allowed.choice i (rw item_count h)))

  allowed_items_iff : (plan : List ℕ) → AllowedPlan p plan ↔ AllowedItems plan
  unfolding AllowedItems GoodChoice
  allowed_items_iff plan = (
    λ allowed.
        record {
          one_choice_per_item = allowed.one_choice_per_task ∙ sym item_count;
          choice = λ i h.
              let l : i < task_count p = rw item_count at h in
              rw item_at_lem ((choice_allowed_iff _ _).1 (allowed.choices_in_range i l, allowed.must_tasks_kept i l));
        },
    λ allowed.
        record {
          one_choice_per_task = allowed.one_choice_per_item ∙ item_count;
          choices_in_range = λ i h. (good_choice_at plan allowed i h).0;
          must_tasks_kept = λ i h. (good_choice_at plan allowed i h).1;
        },
  )

  choices_allowed_iff : (plan : List ℕ) → AllowedPlan p plan ↔ ChoicesAllowed (most_choice p) (options_of p).items plan
  unfolding AllowedItems
  choices_allowed_iff plan = (
    λ allowed. at_allowed _ _ _ _ ((allowed_items_iff plan).0 allowed),
    λ choices. (allowed_items_iff plan).1 (allowed_at _ _ choices),
  )

  -- what adds up item by item is a sum over the tasks
  pub total_over_tasks : (part : Item → ℕ → ℕ) (total : List Item → List ℕ → ℕ) →
      ((plan : List ℕ) → total [] plan ≡ 0) →
      ((item : Item) (items : List Item) (c : ℕ) (plan : List ℕ) → total (item ∷ items) (c ∷ plan) ≡ part item c + total items plan) →
      (plan : List ℕ) → length plan ≡ task_count p →
      total (options_of p).items plan ≡ sum (λ i. part (item_of p (task_at p i)) (choice_at plan i)) (task_count p)
  total_over_tasks part total none more plan e =
      total_is_sum (item_of p no_task) part total none more (options_of p).items plan (e ∙ sym item_count) ∙ simp (item_at_lem, item_count)

  cores_fit_iff : (plan : List ℕ) →
      (cores_fit p plan ≡ accepted) ↔ ((k : ℕ) → k < p.cores → fits p (core_pattern (level_count p) k plan) 0 ≡ true)
  unfolding cores_fit
  cores_fit_iff plan = (
    λ accepted k h. fits_of_pattern p plan k ∙ not-false _ ((none_refused _ _ _).0 accepted k h),
    λ fit. (none_refused _ _ _).1 (λ k h. rw (sym (fits_of_pattern p plan k) ∙ fit k h)),
  )

  pub passing_choices : (plan : List ℕ) → plan_passes p plan ≡ accepted → AllowedPlan p plan
  unfolding plan_passes
  passing_choices plan passes = (choices_pass-iff p plan).0 ((and_then-accepts _ _).0 passes).0

  pub passing_is_allowed : (plan : List ℕ) → (plan_passes p plan ≡ accepted) ↔ Allowed (options_of p) plan
  unfolding plan_passes options_of
  passing_is_allowed plan = (
    λ passes.
        let allowed = passing_choices plan passes in
        record {
          choices = (choices_allowed_iff plan).0 allowed;
          cores_admit = (cores_fit_iff plan).0 ((and_then-accepts (choices_pass p plan) _).0 passes).1;
        },
    λ allowed.
        let choices = (choices_allowed_iff plan).1 allowed.choices in
        (and_then-accepts _ _).1 (
          (choices_pass-iff p plan).1 choices,
          (cores_fit_iff plan).1 allowed.cores_admit,
        ),
  )
