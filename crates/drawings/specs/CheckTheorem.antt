-- The check passes exactly the drawings, and among them the table that a plan gives.
use Rattle.refusals.specs.Refusals.{accepted}
use Rattle.std.specs.Prelude.{ℕ, ◌<◌, List, ◌↔◌, ◌≡◌}
use mathlib.Core.Logic.Iff
use Rattle.std.proofs.Common.{sym}
use Rattle.instance.specs.Node.{Problem}
use Rattle.plan_rules.specs.AllowedPlanLaws.{choices_pass-iff}
use Rattle.checks.specs.CheckLaws.{check_accepts}
use Rattle.checks.specs.Checks.{check}
use Rattle.drawings.specs.DrawingLaws.{drawing_of_parts, parts_of_drawing}
use Rattle.drawings.specs.Drawings.{DrawnTable, Drawing}
use Rattle.tables.specs.Periods.{Periodic}
use Rattle.plan_rules.specs.Plans.{choices_pass, plan_passes}
use Rattle.dispatch.specs.Rows.{slot_of}
use Rattle.drawings.specs.ServedRowLaws.{serves_same, drawing_of_rows}
use Rattle.drawings.specs.ServedRows.{RowServes}
use Rattle.tables.specs.TableLaws.{length-table_of, slot_at-table_of}
use Rattle.plan_rules.specs.CoreOfPlan.{core_tasks}
use Rattle.tables.specs.Tables.{table_of, slot_at}
use Rattle.refusals.specs.VerdictLaws.{and_then-accepts}

-- "These are the choices and tables that pass the check."
pub check_accepts_exactly_drawings : (p : Problem) → Periodic p → (plan table : List ℕ) →
    (check p plan table ≡ accepted) ↔ Drawing p plan table
check_accepts_exactly_drawings p periodic plan table =
    Iff.trans (check_accepts p periodic plan table) (drawing_of_parts p periodic plan table, parts_of_drawing p periodic plan table)

-- "for a plan that 01 does not refuse under 7, the check passes exactly those tables in which each job of a kept task has
-- exactly its ticks between release and deadline on its core, and every other slot is idle"
pub check_accepts_exactly_drawn_tables : (p : Problem) → Periodic p → (plan table : List ℕ) →
    choices_pass p plan ≡ accepted → (check p plan table ≡ accepted) ↔ DrawnTable p plan table
check_accepts_exactly_drawn_tables p periodic plan table passes =
    Iff.trans (check_accepts_exactly_drawings p periodic plan table)
    (λ d. d.drawn, λ drawn. record { allowed = (choices_pass-iff p plan).0 passes; drawn = drawn })

-- the table of a plan that is refused under neither 7 nor 8 passes the check, where earliest deadline first serves every
-- core
pub tabulated_table_passes : (p : Problem) → Periodic p → (plan : List ℕ) → plan_passes p plan ≡ accepted →
    ((k : ℕ) → k < p.cores → RowServes p plan k (slot_of (core_tasks p plan k))) →
    check p plan (table_of p plan) ≡ accepted
unfolding plan_passes
tabulated_table_passes p periodic plan passes serves =
    (check_accepts_exactly_drawings p periodic plan (table_of p plan)).1
    (drawing_of_rows p periodic plan (table_of p plan)
    ((choices_pass-iff p plan).0 ((and_then-accepts _ _).0 passes).0)
    (length-table_of p plan)
    (λ k h.
    serves_same p periodic plan k (slot_of (core_tasks p plan k)) (slot_at p (table_of p plan) k)
    (λ t l. sym (slot_at-table_of p plan k t h l))
    (serves k h)))
