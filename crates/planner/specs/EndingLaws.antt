-- Planning ends as demand 1 has it.
use Rattle.std.specs.Prelude.{ℕ, ◌≤◌, List, [], ◌∷◌, ◌≡◌, refl, length}
use mathlib.Core.List.Memᴰ
use Rattle.std.proofs.Math.Option.{Option, none, some}
use Rattle.refusals.specs.EndingLaws.{unchanged, serves, turns_down}
use Rattle.refusals.specs.Endings.{lent, Ends, read_then, needed_for}
use Rattle.instance.specs.Node.{Problem, task_count}
use Rattle.refusals.specs.RefusalNumbers.{RefusesOnly, accepts, refuses, UnreadOnly, read, unread, both_refuse, room_refuses_6}
use Rattle.refusals.specs.Refusals.{Reading, room, ◌and_then◌, Verdict, accepted, verdict_of}
use Rattle.refusals.specs.RoomLaws.{room_accepts, front_written}
use Rattle.instance.specs.SiteFileRefusals.{reading_refuses_2_3_4}
use Rattle.tables.specs.TableLaws.{length-table_of}
use Rattle.tables.specs.Tables.{table_of, table_size}
use Rattle.refusals.specs.VerdictLaws.{and_then-accepts}
use Rattle.planner.specs.BestPlanLaws.{best_plan_passes}
use Rattle.planner.specs.Endings.{plan_found, PlanningEnds}
use Rattle.planner.specs.OptionsLaws.{passing_choices}
use Rattle.planner.specs.Outcomes.{PlanOutcome, plan_outcome, plan_outcome_of, plan_where, plan_answered}
use Rattle.planner.specs.Planning.{best_plan}

pub best_plan_length : (p : Problem) {best : List ℕ} → best_plan p ≡ some best → length best ≡ task_count p
best_plan_length p {best} e = (passing_choices p best (best_plan_passes p e)).one_choice_per_task

pub planning_ends : (words plan table : List ℕ) →
    let o = plan_outcome words plan table in PlanningEnds words plan table o.answer o.plan o.table
unfolding plan_outcome
planning_ends words plan table = go (reading_refuses_2_3_4 words)
  where
    PlanEnds : Verdict → ℕ → ℕ → PlanOutcome → Type 0
    PlanEnds v n m o =
        Ends v (2 ∷ 3 ∷ 4 ∷ 6 ∷ 5 ∷ []) (lent n plan o.plan ∷ lent m table o.table ∷ []) (verdict_of o.answer)

    answered : (p : Problem) (best : Option (List ℕ)) → best_plan p ≡ best → task_count p ≤ length plan → table_size p ≤ length table →
        PlanEnds (plan_found best) (task_count p) (table_size p) (plan_answered p best plan table)
    answered p none e room_for_plan room_for_table =
        turns_down (Memᴰ.append_right (2 ∷ 3 ∷ 4 ∷ 6 ∷ []) (Memᴰ.head refl)) (unchanged, (unchanged, tt))
    answered p (some best) e room_for_plan room_for_table =
        serves (
          front_written best plan (best_plan_length p e) room_for_plan,
          (front_written (table_of p best) table (length-table_of p best) room_for_table, tt),
        )

    planned : (p : Problem) {v : Verdict} → RefusesOnly (6 ∷ []) v →
        (v ≡ accepted → (task_count p ≤ length plan) × (table_size p ≤ length table)) →
        PlanEnds (v and_then plan_found (best_plan p)) (task_count p) (table_size p) (plan_where v p plan table)
    planned p accepts enough = answered p (best_plan p) refl (enough refl).0 (enough refl).1
    planned p (refuses m) enough =
        turns_down (Memᴰ.append_left (5 ∷ []) (Memᴰ.append_right (2 ∷ 3 ∷ 4 ∷ []) m)) (unchanged, (unchanged, tt))

    go : {reading : Reading Problem} → UnreadOnly (2 ∷ 3 ∷ 4 ∷ []) reading →
        PlanEnds
        (read_then reading (λ p. (room (task_count p) plan and_then room (table_size p) table) and_then plan_found (best_plan p)))
        (needed_for task_count reading)
        (needed_for table_size reading)
        (plan_outcome_of reading plan table)
    go (read p) =
        planned p (both_refuse (room_refuses_6 (task_count p) plan) (room_refuses_6 (table_size p) table)) (λ e.
        let both = (and_then-accepts (room (task_count p) plan) (room (table_size p) table)).0 e in
        (room_accepts _ _ both.0, room_accepts _ _ both.1))
    go (unread m) = turns_down (Memᴰ.append_left (6 ∷ 5 ∷ []) m) (unchanged, (unchanged, tt))
