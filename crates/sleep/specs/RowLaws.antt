-- A row of a table, by itself and as the code lends it, is busy at the same ticks; and it repeats.
use Rattle.std.specs.Prelude.{ℕ, ◌+◌, ◌*◌, ◌-◌, ◌%◌, ◌≤◌, ◌<◌, not, List, ◌≡◌, eqb, length, get_or, take, drop}
use Rattle.std.proofs.Math.Path.{refl}
use Rattle.std.proofs.Common.{mod-eq_of_lt, mod-lt}
use Rattle.std.proofs.Math.Nat.{add-mod_left}
use Rattle.laws.specs.PartLaws.{length_part, get_d_part}
use Rattle.instance.specs.Node.{Problem, span}
use Rattle.drawings.specs.RepeatedTables.{shown_at}
use Rattle.gaps.specs.Gaps.{Repeats}
use Rattle.tables.specs.Tables.{slot_at}
use Rattle.sleep.specs.Rows.{busy_at, busy_in}

pub row_repeats : (row : List ℕ) → Repeats (busy_in row) (length row)
unfolding busy_in
row_repeats row = record { again = λ t. rw (add-mod_left (length row) t) refl }

pub busy_in_row : (row : List ℕ) (x : ℕ) → x < length row → busy_in row x ≡ not (eqb (get_or row x 0) 0)
unfolding busy_in
busy_in_row row x l = rw (mod-eq_of_lt l) refl

module _ (p : Problem) (table : List ℕ) (k : ℕ) where
  pub table_row_repeats : Repeats (busy_at p table k) (span p)
  unfolding busy_at shown_at
  table_row_repeats = record { again = λ t. rw (add-mod_left (span p) t) refl }

  -- the part of the table that is core k's row of w slots
  abbrev pub row_of : ℕ → List ℕ
  row_of w = take ((k * w + w) - k * w) (drop (k * w) table)

  module _ (w : ℕ) (wide : w ≡ span p) (above : 0 < w) (within : k * w + w ≤ length table) where
    pub row_length : length (row_of w) ≡ span p
    row_length = rw (length_part table (k * w) w within) wide

    busy_same : (t : ℕ) → busy_in (row_of w) t ≡ busy_at p table k t
    unfolding busy_in busy_at shown_at slot_at
    busy_same t =
        rw (length_part table (k * w) w within, get_d_part table (k * w) w (t % w) 0 (mod-lt t above), wide) refl

    pub row_busy_as_table : busy_in (row_of w) ≡ busy_at p table k
    row_busy_as_table = λ i t. busy_same t i
