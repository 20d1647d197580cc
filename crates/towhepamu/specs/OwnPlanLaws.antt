-- Planning in words of its own, one for each task, comes to what planning in the lent buffer does: the same answer and table, and the
-- plan is written to the front of the lent buffer only where there is one.
use Rattle.std.specs.Prelude.{ℕ, ◌<◌, ◌≤◌, List, ◌++◌, ◌≡◌, refl, length, take, Result, Ok, Err}
use Rattle.std.proofs.Math.Option.{Option, none, some}
use Rattle.std.proofs.Common.{sym, ◌∙◌, arith, take_at}
use Rattle.laws.specs.Lists.{onto}
use Rattle.laws.specs.OntoLaws.{onto_all}
use Rattle.ranges.specs.Limits.{most_tasks}
use Rattle.instance.specs.Held.{problem_in, held_taskcount}
use Rattle.instance.specs.Node.{Problem, task_count}
use Rattle.refusals.specs.Refusals.{room, Verdict}
use Rattle.instance.specs.SiteFile.{problem_of}
use Rattle.instance.specs.SiteFileLaws.{accepted_is_valid}
use Rattle.instance.specs.declared.Instance.{Instance}
use Rattle.refusals.specs.declared.Refusal.{Refusal}
use Rattle.refusals.specs.declared.Refusal.TheVariants.{ShortBuffer}
use Rattle.instance.specs.ReadLaws.{HoldsProblemOf}
use Rattle.tables.specs.Tables.{table_size}
use Rattle.prices.specs.declared.amounts.Price.{Price}
use Rattle.planner.specs.EndingLaws.{best_plan_length}
use Rattle.planner.specs.Outcomes.{PlanOutcome, plan_refused, plan_answered, plan_where, plan_outcome}
use Rattle.planner.specs.PlannedLaws.{of_reading, where_room}
use Rattle.planner.specs.Planning.{best_plan}
use Rattle.refusals.specs.RoomLaws.{enough_room, no_room}
use Rattle.towhepamu.specs.ByteLists.{ByteList, best_plan_fits_bytes}

-- what the contract of planning says
abbrev pub IsOutcome : PlanOutcome → Result Price Refusal → List ℕ → List ℕ → Type 0
IsOutcome o answer plan table = (answer ≡ o.answer) × ((plan ≡ o.plan) × (table ≡ o.table))

pub refused_words_outcome : (words plan table : List ℕ) {r : Refusal} → problem_of words ≡ Err r →
    IsOutcome (plan_outcome words plan table) (Err r) plan table
refused_words_outcome words plan table e = rw (of_reading words plan table e) (refl, (refl, refl))

-- the words are an instance of n tasks, and the lent plan buffer has room for a choice each
pub record RoomForPlan (words : List ℕ) (n : ℕ) (plan : List ℕ) : Type 0 where
  pub problem : Problem
  pub read : problem_of words ≡ Ok problem
  pub tasks : n ≡ task_count problem
  pub enough : n ≤ length plan

pub tasks_at_most : {words : List ℕ} {n : ℕ} {plan : List ℕ} → RoomForPlan words n plan → n ≤ most_tasks
tasks_at_most {words} lent = omega (arith, lent.tasks, (accepted_is_valid words lent.read).task_count_bound)

module _ (words : List ℕ) (inst : Instance) (held : HoldsProblemOf words inst) (plan : List ℕ) where
  pub room_for_plan : inst.taskcount ≤ length plan → RoomForPlan words inst.taskcount plan
  room_for_plan enough =
      record { problem = problem_in inst; read = held.problem; tasks = held_taskcount inst held.sound; enough = enough }

  pub short_plan_outcome : (table : List ℕ) → length plan < inst.taskcount →
      IsOutcome (plan_outcome words plan table) (Err (ShortBuffer inst.taskcount)) plan table
  short_plan_outcome table short =
      let n = held_taskcount inst held.sound in
      let refuses : room inst.taskcount plan ≡ Err (ShortBuffer inst.taskcount) = no_room _ plan short in
      rw (where_room words plan table (problem_in inst) held.problem (Err (ShortBuffer inst.taskcount)) (rw (← n, refuses) refl))
      (refl, (refl, refl))

-- the outcomes of planning in a buffer of its own and in the lent one
data OwnBufferOutcome (own plan table : List ℕ) : PlanOutcome → PlanOutcome → Type 0 where
  refuses : (r : Refusal) → OwnBufferOutcome own plan table (plan_refused r own table) (plan_refused r plan table)
  plans : (price : Price) (choices slots : List ℕ) → ByteList choices →
      OwnBufferOutcome own plan table
      (record { answer = Ok price; plan = choices; table = slots })
      (record { answer = Ok price; plan = onto choices plan; table = slots })

module _ (words : List ℕ) (n : ℕ) (plan own table : List ℕ) (lent : RoomForPlan words n plan) (exact : length own ≡ n) where
  own_buffer_outcome : OwnBufferOutcome own plan table (plan_outcome words own table) (plan_outcome words plan table)
  own_buffer_outcome =
      let tasks = lent.tasks in
      let enough = lent.enough in
      rw (
        where_room words own table p lent.read v (rw (enough_room (task_count p) own (omega arith)) refl),
        where_room words plan table p lent.read v (rw (enough_room (task_count p) plan (omega arith)) refl),
      ) (placed v)
    where
      p : Problem
      p = lent.problem

      v : Verdict
      v = room (table_size p) table

      answered : (best : Option (List ℕ)) → best_plan p ≡ best → OwnBufferOutcome own plan table (plan_answered p best own table) (plan_answered p best plan table)
      answered none e = OwnBufferOutcome.refuses _
      answered (some best) e =
          rw (onto_all best own (best_plan_length p e ∙ sym lent.tasks ∙ sym exact))
          (OwnBufferOutcome.plans _ best _ (best_plan_fits_bytes p (accepted_is_valid words lent.read) e))

      placed : (v : Verdict) → OwnBufferOutcome own plan table (plan_where v p own table) (plan_where v p plan table)
      placed (Err r) = OwnBufferOutcome.refuses r
      placed (Ok tt) = answered (best_plan p) refl

  -- what planning in its own buffer came to
  module _ {answer : (Result Price Refusal)} {choices slots : List ℕ} (came : IsOutcome (plan_outcome words own table) answer choices slots) where
    pub refused_own_buffer_outcome_buffer : {r : Refusal} → answer ≡ Err r → IsOutcome (plan_outcome words plan table) (Err r) plan slots
    refused_own_buffer_outcome_buffer {r} said = go own_buffer_outcome came
      where
        go : {o q : PlanOutcome} → OwnBufferOutcome own plan table o q → IsOutcome o answer choices slots → IsOutcome q (Err r) plan slots
        go (OwnBufferOutcome.refuses other) is = (sym said ∙ is.0, (refl, is.1.1))
        go (OwnBufferOutcome.plans price best row bytes) is = let z : ◌≡◌ {A = ℕ} 0 1 = cc in absurd (omega arith)

    planned_own_buffer_outcome : {price : Price} → answer ≡ Ok price →
        ByteList choices × IsOutcome (plan_outcome words plan table) (Ok price) (onto choices plan) slots
    planned_own_buffer_outcome {price} said = go own_buffer_outcome came
      where
        go : {o q : PlanOutcome} → OwnBufferOutcome own plan table o q → IsOutcome o answer choices slots →
            ByteList choices × IsOutcome q (Ok price) (onto choices plan) slots
        go (OwnBufferOutcome.refuses other) is = let z : ◌≡◌ {A = ℕ} 0 1 = cc in absurd (omega arith)
        go (OwnBufferOutcome.plans other best row bytes) is =
            rw is.1.0 (bytes, (sym said ∙ is.0, (refl, is.1.1)))

    -- its front, copied
    module _ {price : Price} (said : answer ≡ Ok price) (rest : List ℕ) (kept : length choices ≡ n) where
      pub own_plan_is_bytes : ByteList (take n (choices ++ rest))
      own_plan_is_bytes = rw (take_at choices rest n kept) (planned_own_buffer_outcome said).0

      pub own_plan_is_copied : {after : List ℕ} → after ≡ onto (take n (choices ++ rest)) plan →
          IsOutcome (plan_outcome words plan table) (Ok price) after slots
      own_plan_is_copied copied = rw (copied, take_at choices rest n kept) (planned_own_buffer_outcome said).1
