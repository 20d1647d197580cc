-- An instance has at most 12 tasks, so no more than the front of a given plan matters to the checks, nor to the reckoning
-- of sleeps, which takes a plan to the check alone.
use Rattle.std.specs.Prelude.{ℕ, min, ◌<◌, Bool, true, false, List, ◌≡◌, leb, length, take, Ok, Err}
use Rattle.std.proofs.Math.Path.{refl, ap}
use Rattle.std.proofs.Common.{sym, ◌∙◌, arith, leb-true, leb-false, take_all, take_at, length-take-le}
use Rattle.laws.specs.Lists.{onto}
use Rattle.ranges.specs.Limits.{most_tasks}
use Rattle.instance.specs.Node.{Problem, task_count}
use Rattle.refusals.specs.Endings.{read_then}
use Rattle.refusals.specs.Refusals.{Reading, ◌and_then◌, Verdict}
use Rattle.instance.specs.SiteFile.{problem_of}
use Rattle.instance.specs.SiteFileLaws.{accepted_is_valid}
use Rattle.refusals.specs.declared.Refusal.TheVariants.{GivenPlan}
use Rattle.checks.specs.CheckLaws.{check_in_order}
use Rattle.checks.specs.Checks.{slots_pass, jobs_pass, slot_check, check}
use Rattle.checks.specs.Outcomes.{slot_check_outcome, check_outcome}
use Rattle.plan_rules.specs.Plans.{choices_pass}
use Rattle.refusals.specs.VerdictLaws.{longer_is_refused}
use Rattle.sleep.specs.CoreSleeps.{switching_passes, least_energies, sleep_counts}
use Rattle.sleep.specs.Outcomes.{Gives, room_for_both, sleep_where, sleep_outcome_of, sleep_outcome}

pub longer_plan_is_refused : (p : Problem) (plan : List ℕ) → task_count p < length plan →
    choices_pass p plan ≡ Err (GivenPlan (task_count p))
unfolding choices_pass
longer_plan_is_refused p plan long = sym (longer_is_refused GivenPlan (task_count p) (task_count p) refl (length plan) _ long)

-- the first m choices: all of them, or k
module _ (plan : List ℕ) (k m : ℕ) (cut : m ≡ min (length plan) k) where
  pub front_length : length (take m plan) ≡ m
  front_length = length-take-le m plan (omega arith)

  -- the front as code copies it
  pub front_of_copy : (blank choices : List ℕ) → choices ≡ onto (take m plan) blank → take m choices ≡ take m plan
  unfolding onto
  front_of_copy blank choices copied = rw copied (take_at (take m plan) _ m front_length)

  -- where k choices are too many, they show that the plan is too long: tests that begin with 7 see no more of it
  tested_by_front : (p : Problem) (later : List ℕ → Verdict) → task_count p < k →
      choices_pass p (take m plan) and_then later (take m plan) ≡ choices_pass p plan and_then later plan
  tested_by_front p later few = go (leb (length plan) k) refl
    where
      go : (whole : Bool) → leb (length plan) k ≡ whole →
          choices_pass p (take m plan) and_then later (take m plan) ≡ choices_pass p plan and_then later plan
      go true t = rw (take_all m plan (omega (arith, leb-true (length plan) k t)))
      go false t =
          let long = leb-false (length plan) k t in
          rw (
            longer_plan_is_refused p (take m plan) (omega (arith, front_length)),
            longer_plan_is_refused p plan (omega arith),
          )

  slot_check_of_front : (p : Problem) (table : List ℕ) → task_count p < k → slot_check p (take m plan) table ≡ slot_check p plan table
  unfolding slot_check
  slot_check_of_front p table few = tested_by_front p (λ choices. slots_pass p choices table) few

  check_of_front : (p : Problem) (table : List ℕ) → task_count p < k → check p (take m plan) table ≡ check p plan table
  check_of_front p table few =
      check_in_order p (take m plan) table
      ∙ tested_by_front p (λ choices. slots_pass p choices table and_then jobs_pass p choices table) few
      ∙ sym (check_in_order p plan table)

  read_and_tested_by_front : (words : List ℕ) (tests : Problem → List ℕ → Verdict) → most_tasks < k →
      ((p : Problem) → task_count p < k → tests p (take m plan) ≡ tests p plan) →
      read_then (problem_of words) (λ p. tests p (take m plan)) ≡ read_then (problem_of words) (λ p. tests p plan)
  read_and_tested_by_front words tests long same = go (problem_of words) refl
    where
      go : (reading : Reading Problem) → problem_of words ≡ reading →
          read_then reading (λ p. tests p (take m plan)) ≡ read_then reading (λ p. tests p plan)
      go (Err r) e = refl
      go (Ok p) e = same p (omega (arith, (accepted_is_valid words e).task_count_bound))

  module _ (words table : List ℕ) (long : most_tasks < k) where
    pub slot_check_outcome-of_front : slot_check_outcome words (take m plan) table ≡ slot_check_outcome words plan table
    unfolding slot_check_outcome
    slot_check_outcome-of_front =
        read_and_tested_by_front words (λ p choices. slot_check p choices table) long (λ p. slot_check_of_front p table)

    pub check_outcome-of_front : check_outcome words (take m plan) table ≡ check_outcome words plan table
    unfolding check_outcome
    check_outcome-of_front =
        read_and_tested_by_front words (λ p choices. check p choices table) long (λ p. check_of_front p table)

    module _ (blank choices : List ℕ) (copied : choices ≡ onto (take m plan) blank) where
      pub copied_plan_has_its_slots_checked : slot_check_outcome words (take m choices) table ≡ slot_check_outcome words plan table
      copied_plan_has_its_slots_checked = rw (front_of_copy blank choices copied) slot_check_outcome-of_front

      pub copied_plan_is_checked : check_outcome words (take m choices) table ≡ check_outcome words plan table
      copied_plan_is_checked = rw (front_of_copy blank choices copied) check_outcome-of_front

  module _ (words table : List ℕ) (energy time : ℕ) (energies sleeps : List ℕ) (long : most_tasks < k) where
    sleep_outcome-of_front : sleep_outcome words (take m plan) table energy time energies sleeps ≡ sleep_outcome words plan table energy time energies sleeps
    unfolding sleep_outcome
    sleep_outcome-of_front = go (problem_of words) refl
      where
        go : (reading : Reading Problem) → problem_of words ≡ reading →
            sleep_outcome_of reading (take m plan) table energy time energies sleeps ≡ sleep_outcome_of reading plan table energy time energies sleeps
        go (Err r) e = refl
        go (Ok p) e =
            ap (λ (v : Verdict). sleep_where (switching_passes energy time and_then room_for_both p energies sleeps and_then v)
            (least_energies p table energy time) (sleep_counts p table energy time) energies sleeps)
            (check_of_front p table (omega (arith, (accepted_is_valid words e).task_count_bound)))

    pub copied_plan_gives_sleeps : (blank choices : List ℕ) → choices ≡ onto (take m plan) blank →
        {answer : Verdict} {energies_after sleeps_after : List ℕ} →
        Gives answer energies_after sleeps_after (sleep_outcome words (take m choices) table energy time energies sleeps) →
        Gives answer energies_after sleeps_after (sleep_outcome words plan table energy time energies sleeps)
    copied_plan_gives_sleeps blank choices copied given =
        rw (← sleep_outcome-of_front, ← front_of_copy blank choices copied) given
