-- Tabling ends as demand 1 has it.
use Rattle.std.specs.Prelude.{ℕ, ◌≤◌, List, [], ◌∷◌, ◌≡◌, refl, length}
use mathlib.Core.List.Memᴰ
use Rattle.refusals.specs.EndingLaws.{unchanged, serves, turns_down}
use Rattle.refusals.specs.Endings.{lent, Ends, read_then, needed_for}
use Rattle.instance.specs.Node.{Problem}
use Rattle.refusals.specs.RefusalNumbers.{RefusesOnly, accepts, refuses, UnreadOnly, read, unread, and_then-refuses, room_refuses_6}
use Rattle.refusals.specs.Refusals.{Reading, room, ◌and_then◌, Verdict, accepted}
use Rattle.refusals.specs.RoomLaws.{room_accepts, front_written}
use Rattle.instance.specs.SiteFileRefusals.{reading_refuses_2_3_4}
use Rattle.tables.specs.Outcomes.{TableOutcome, table_outcome, table_outcome_of, table_where, TablingEnds}
use Rattle.plan_rules.specs.Plans.{plan_passes}
use Rattle.plan_rules.specs.RefusalLaws.{plan_refuses_7_8}
use Rattle.tables.specs.TableLaws.{length-table_of}
use Rattle.tables.specs.Tables.{table_of, table_size}
use Rattle.refusals.specs.VerdictLaws.{and_then-accepts}

pub tabling_ends : (words plan buffer : List ℕ) →
    let o = table_outcome words plan buffer in TablingEnds words plan buffer o.answer o.table
unfolding table_outcome plan_passes
tabling_ends words plan buffer = go (reading_refuses_2_3_4 words)
  where
    TableEnds : Verdict → ℕ → TableOutcome → Type 0
    TableEnds v n o = Ends v (2 ∷ 3 ∷ 4 ∷ 6 ∷ 7 ∷ 8 ∷ []) (lent n buffer o.table ∷ []) o.answer

    tabled : (p : Problem) {v : Verdict} → RefusesOnly (6 ∷ 7 ∷ 8 ∷ []) v → (v ≡ accepted → table_size p ≤ length buffer) →
        TableEnds v (table_size p) (table_where v (table_of p plan) buffer)
    tabled p accepts enough = serves (front_written (table_of p plan) buffer (length-table_of p plan) (enough refl), tt)
    tabled p (refuses m) enough = turns_down (Memᴰ.append_right (2 ∷ 3 ∷ 4 ∷ []) m) (unchanged, tt)

    go : {reading : Reading Problem} → UnreadOnly (2 ∷ 3 ∷ 4 ∷ []) reading →
        TableEnds
        (read_then reading (λ p. room (table_size p) buffer and_then plan_passes p plan))
        (needed_for table_size reading)
        (table_outcome_of reading plan buffer)
    go (read p) =
        tabled p
        (and_then-refuses (room_refuses_6 (table_size p) buffer) (plan_refuses_7_8 p plan))
        (λ e. room_accepts _ _ ((and_then-accepts (room (table_size p) buffer) (plan_passes p plan)).0 e).0)
    go (unread m) = turns_down (Memᴰ.append_left (6 ∷ 7 ∷ 8 ∷ []) m) (unchanged, tt)

-- what the contract says of an answer, and of the buffer after it
pub table_is_promised : (words plan buffer : List ℕ) (answer : Verdict) (after : List ℕ) →
    let o = table_outcome words plan buffer in
    (answer ≡ o.answer) × (after ≡ o.table) →
    (answer ≡ o.answer) × ((after ≡ o.table) × TablingEnds words plan buffer answer after)
table_is_promised words plan buffer answer after e = (e.0, (e.1, rw (e.0, e.1) (tabling_ends words plan buffer)))
