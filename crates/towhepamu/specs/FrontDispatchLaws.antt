-- No more than the front of a given plan matters to the dispatcher, and to preparing a core: 7 turns a longer one away.
use Rattle.refusals.specs.declared.Refusal.{Refusal}
use Rattle.std.specs.Prelude.{ℕ, min, ◌<◌, Bool, List, ◌≡◌, length, take, Result, Ok, Err, IfOk}
use Rattle.std.proofs.Math.Bool.{true, false}
use Rattle.std.proofs.Math.Path.{refl}
use Rattle.std.proofs.Common.{sym, ◌∙◌, arith, take_all}
use borrow.Author.Tests.{leb-true, leb-false}
use Rattle.std.proofs.Math.Dec.{leb}
use Rattle.laws.specs.Lists.{onto}
use Rattle.ranges.specs.Limits.{most_tasks}
use Rattle.instance.specs.Node.{Problem, task_count}
use Rattle.refusals.specs.Endings.{read_then}
use Rattle.refusals.specs.Refusals.{Reading, verdict_of}
use Rattle.refusals.specs.VerdictLaws.{refused_not_accepted}
use Rattle.refusals.specs.declared.Refusal.TheVariants.{GivenPlan}
use Rattle.instance.specs.SiteFile.{problem_of}
use Rattle.instance.specs.SiteFileLaws.{accepted_is_valid}
use Rattle.plan_rules.specs.Plans.{plan_passes}
use Rattle.dispatcher.specs.Outcomes.{dispatch_outcome, dispatch_outcome_of, preparing_tests}
use Rattle.dispatcher.specs.Preparing.{Prepares}
use Rattle.dispatcher.specs.declared.DispatchState.{DispatchState}
use Rattle.dispatcher.specs.declared.preparing.PreparedCore.{PreparedCore}
use Rattle.towhepamu.specs.FrontPlanLaws.{longer_plan_is_refused, front_length, front_of_copy}

-- a refusal has no core of which anything is said
refused_holds_all : (P : PreparedCore → Type 0) {r : Refusal} (prepared : Result PreparedCore Refusal) →
    verdict_of prepared ≡ Err r → IfOk prepared P
refused_holds_all P {r} (Ok core) refuses = absurd (refused_not_accepted r (sym refuses))
refused_holds_all P (Err other) refuses = tt

-- the first m choices: all of them, or k
module _ (plan : List ℕ) (k m : ℕ) (cut : m ≡ min (length plan) k) (core : ℕ) (s : DispatchState) (ended : Bool) where
  dispatch_of_front : (p : Problem) → task_count p < k →
      dispatch_outcome_of (Ok p) (take m plan) core s ended ≡ dispatch_outcome_of (Ok p) plan core s ended
  unfolding plan_passes
  dispatch_of_front p few = go (leb (length plan) k) refl
    where
      go : (whole : Bool) → leb (length plan) k ≡ whole →
          dispatch_outcome_of (Ok p) (take m plan) core s ended ≡ dispatch_outcome_of (Ok p) plan core s ended
      go true t = rw (take_all m plan (omega (arith, leb-true (length plan) k t)))
      go false t =
          let long = leb-false (length plan) k t in
          rw (
            longer_plan_is_refused p (take m plan) (omega (arith, front_length plan k m cut)),
            longer_plan_is_refused p plan (omega arith),
          )

  pub front_is_dispatched : (words : List ℕ) → most_tasks < k →
      dispatch_outcome words (take m plan) core s ended ≡ dispatch_outcome words plan core s ended
  unfolding dispatch_outcome
  front_is_dispatched words long = go (problem_of words) refl
    where
      go : (reading : Reading Problem) → problem_of words ≡ reading →
          dispatch_outcome_of reading (take m plan) core s ended ≡ dispatch_outcome_of reading plan core s ended
      go (Err r) e = refl
      go (Ok p) e = dispatch_of_front p (omega (arith, (accepted_is_valid words e).task_count_bound))

  pub copied_plan_is_dispatched : (words blank choices : List ℕ) → most_tasks < k → choices ≡ onto (take m plan) blank →
      dispatch_outcome words (take m choices) core s ended ≡ dispatch_outcome words plan core s ended
  copied_plan_is_dispatched words blank choices long copied =
      rw (front_of_copy plan k m cut blank choices copied) (front_is_dispatched words long)

module _ (plan : List ℕ) (k m : ℕ) (cut : m ≡ min (length plan) k) (core : ℕ) (prepared : Result PreparedCore Refusal) where
  longer_is_not_prepared : (p : Problem) (given : List ℕ) → task_count p < length given → preparing_tests p given core ≡ Err (GivenPlan (task_count p))
  unfolding plan_passes
  longer_is_not_prepared p given long = rw (longer_plan_is_refused p given long) refl

  pub front_is_prepared : (words : List ℕ) → most_tasks < k → Prepares words (take m plan) core prepared → Prepares words plan core prepared
  front_is_prepared words long prepares = go (leb (length plan) k) refl
    where
      go : (whole : Bool) → leb (length plan) k ≡ whole → Prepares words plan core prepared
      go true t = rw (take_all m plan (omega (arith, leb-true (length plan) k t))) at prepares
      go false t =
          let longer = leb-false (length plan) k t in
          let front = front_length plan k m cut in
          let refuses : (p : Problem) → problem_of words ≡ Ok p →
          (preparing_tests p plan core ≡ Err (GivenPlan (task_count p)))
          × (preparing_tests p (take m plan) core ≡ Err (GivenPlan (task_count p)))
          = λ p read.
          let few = (accepted_is_valid words read).task_count_bound in
          (longer_is_not_prepared p plan (omega arith), longer_is_not_prepared p (take m plan) (omega arith)) in
          record {
            as_tested = prepares.as_tested ∙ same (problem_of words) refl refuses;
            holds_core = λ p read. refused_holds_all _ prepared (rw read at prepares.as_tested ∙ (refuses p read).1);
            no_more_than_places = prepares.no_more_than_places;
          }
        where
          same : (reading : Reading Problem) → problem_of words ≡ reading →
              ((p : Problem) → problem_of words ≡ Ok p →
              (preparing_tests p plan core ≡ Err (GivenPlan (task_count p)))
              × (preparing_tests p (take m plan) core ≡ Err (GivenPlan (task_count p)))) →
              read_then (problem_of words) (λ p. preparing_tests p (take m plan) core) ≡ read_then (problem_of words) (λ p. preparing_tests p plan core)
          same (Err r) read refuses = rw read refl
          same (Ok p) read refuses = rw read ((refuses p read).1 ∙ sym (refuses p read).0)

  pub copied_plan_is_prepared : (words blank choices : List ℕ) → most_tasks < k → choices ≡ onto (take m plan) blank →
      Prepares words (take m choices) core prepared → Prepares words plan core prepared
  copied_plan_is_prepared words blank choices long copied prepares =
      front_is_prepared words long (rw (front_of_copy plan k m cut blank choices copied) at prepares)
