-- `slots_named` tries the slots in order: none that it has passed is stray.
use Prim.Native.Nat.{ℕ, ◌-◌, ◌/◌, ◌≤◌, ◌<◌}
use mathlib.Core.Bool.{false}
use mathlib.Core.Path.{◌≡◌}
use lib.ListN.{length, get_or}
use Rattle.checks.specs.HeldSlots.{AtSlot, is_stray}
use Rattle.checks.proofs.slots.slots_named.Given as goal

abbrev pub invariant-loop-x : goal.invariant-loop-x
invariant-loop-x l =
    AtSlot l.span l.k l.left l.x × (l.x ≤ length l.table) × ((y : ℕ) → y < l.x → is_stray l.plan l.levels (y / l.span) (get_or l.table y 0) ≡ false)
