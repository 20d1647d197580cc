-- The test of a table's slots by numbers: of a slot, and along the rows.
use Rattle.std.specs.Prelude.{ℕ, pred, ◌+◌, ◌*◌, ◌-◌, ◌/◌, ◌≤◌, ◌<◌, Bool, true, false, cond, not, ◌&&◌, List, ◌≡◌, ltb, eqb, length, get_or, Err}
use Rattle.std.proofs.Math.Path.{refl}
use Rattle.std.proofs.Common.{sym, le-mul_of_pos_right, arith}
use Rattle.std.proofs.Math.Numerals.{sub-one}
use Rattle.std.proofs.Math.Arith.{digits_div}
use Rattle.std.proofs.Math.ListN.{get_or-eq_default}
use borrow.Author.Tests.{eq-eqb, ne_eqb}
use Rattle.laws.specs.Search.{first}
use Rattle.instance.specs.Node.{Problem, level_count, span}
use Rattle.refusals.specs.declared.Refusal.TheVariants.{GivenTable}
use Rattle.refusals.specs.Refusals.{Verdict, accepted}
use Rattle.checks.specs.Checks.{stray_value, stray_slot, slots_pass}
use Rattle.plan_rules.specs.Quantities.{choice_at, is_refused, keeps}
use Rattle.tables.specs.Tables.{table_size}

-- the test of a slot of core k, by the count of the levels
unfoldable pub is_stray : List ℕ → (levels k slot : ℕ) → Bool
is_stray plan levels k slot = not (eqb slot 0) && not (not (is_refused plan (pred slot)) && eqb (pred (choice_at plan (pred slot)) / levels) k)

-- the test of a table's slots, by the count of the levels and the length of a row
unfoldable pub slots_named : List ℕ → (levels w : ℕ) → List ℕ → Verdict
slots_named plan levels w table =
    let x = first (λ x. is_stray plan levels (x / w) (get_or table x 0)) (length table) in
    cond (ltb x (length table)) (Err (GivenTable x)) accepted

pub slots_named_is_slots_pass : (p : Problem) (plan table : List ℕ) (levels w : ℕ) → levels ≡ level_count p → w ≡ span p → length table ≡ table_size p →
    slots_named plan levels w table ≡ slots_pass p plan table
unfolding slots_named is_stray slots_pass stray_slot stray_value keeps
slots_named_is_slots_pass p plan table levels w many wide whole = rw (many, wide, whole, eq-eqb (table_size p) (table_size p) refl) refl

module _ (plan : List ℕ) (levels k slot : ℕ) where
  pub idle_slot_is_not_stray : slot ≡ 0 → false ≡ is_stray plan levels k slot
  unfolding is_stray
  idle_slot_is_not_stray idle = rw (eq-eqb slot 0 idle) refl

  module _ (busy : slot ≡ 0 → ⊥) where
    pub slot_past_tasks_is_stray : length plan ≤ slot - 1 → true ≡ is_stray plan levels k slot
    unfolding is_stray
    slot_past_tasks_is_stray past =
        rw (ne_eqb slot 0 busy, ← sub-one slot, get_or-eq_default plan 0 {n = slot - 1} past) refl

    pub slot_of_refused_task_is_stray : choice_at plan (slot - 1) ≡ 0 → true ≡ is_stray plan levels k slot
    unfolding is_stray
    slot_of_refused_task_is_stray refused = rw (ne_eqb slot 0 busy, ← sub-one slot, refused) refl

    pub slot_of_kept_task_is_stray_on_other_cores : (choice_at plan (slot - 1) ≡ 0 → ⊥) →
        not (eqb (pred (choice_at plan (slot - 1)) / levels) k) ≡ is_stray plan levels k slot
    unfolding is_stray
    slot_of_kept_task_is_stray_on_other_cores kept = rw (ne_eqb slot 0 busy, ← sub-one slot, ne_eqb (choice_at plan (slot - 1)) 0 kept) refl

-- a walk over rows of w slots stands at slot x: in core k's row, of which so many slots are left
pub record AtSlot (w k left x : ℕ) : Type 0 where
  pub row_end : k * w + w ≡ x + left
  pub at_most : left ≤ w

pub record InRow (w k left x : ℕ) : Type 0 where
  pub here : AtSlot w k left x
  pub some : 0 < left

module _ {w k left x : ℕ} where
  pub core_at_most : 0 < w → AtSlot w k left x → k ≤ x
  core_at_most wide at = omega (arith, le-mul_of_pos_right k wide, at.row_end, at.at_most)

  pub row_goes_on : AtSlot w k left x → (left ≡ 0 → ⊥) → InRow w k left x
  row_goes_on at more = record { here = at; some = omega (arith, more) }

  pub next_row_begins : 0 < w → AtSlot w k left x → left ≡ 0 → InRow w (k + 1) w x
  next_row_begins wide at none = record { here = record { row_end = omega (arith, at.row_end); at_most = omega arith }; some = wide }

  pub slot_passed : InRow w k left x → AtSlot w k (left - 1) (x + 1)
  slot_passed at = record { row_end = omega (arith, at.here.row_end, at.some); at_most = omega (arith, at.here.at_most) }

  -- the row that a slot is in is its core's
  pub core_of_slot : InRow w k left x → k ≡ x / w
  core_of_slot at =
      let split : k * w + (x - k * w) ≡ x = omega (arith, at.here.row_end, at.here.at_most) in
      let core : (k * w + (x - k * w)) / w ≡ k = digits_div k (omega (arith, at.here.row_end, at.here.at_most, at.some)) in
      sym (rw split at core)
