-- The table of a plan, and its size, from what the code holds.
use Rattle.std.specs.Prelude.{ℕ, ◌+◌, ◌*◌, ◌-◌, ◌≤◌, ◌<◌, List, ◌≡◌, refl, length, take, drop}
use Rattle.std.proofs.Math.Path.{ap}
use Rattle.std.proofs.Common.{◌∙◌, mul-le-mul_right, mul-le-mul, add-one, arith}
use borrow.Rule.Slice.PartMut.{put_mid}
use Rattle.laws.specs.JoinedLaws.{length_joined}
use Rattle.laws.specs.Lists.{onto, joined}
use Rattle.laws.specs.OntoLaws.{length_onto, put_onto}
use Rattle.laws.specs.PartLaws.{length_part}
use Rattle.instance.specs.Node.{Problem, span}
use Rattle.dispatch.specs.Rows.{row}
use Rattle.tables.specs.TableLaws.{row_length}
use Rattle.plan_rules.specs.CoreOfPlan.{core_tasks}
use Rattle.tables.specs.Tables.{table_of, table_size}
use Rattle.instance.specs.Held.{problem_in, Sound, held_span}
use Rattle.ranges.specs.Limits.{most_cores, most_span}
use Rattle.instance.specs.Valid.{Valid}
use Rattle.instance.specs.declared.Instance.{Instance}

pub row_within_table : (p : Problem) (w n k : ℕ) → w ≡ span p → table_size p ≤ n → k < p.cores → k * w + w ≤ n
row_within_table p w n k wide room h = let whole : p.cores * w ≤ n = rw wide room in omega (arith, mul-le-mul_right w h)

pub table_size_at_most : (p : Problem) → Valid p → table_size p ≤ most_cores * most_span
table_size_at_most p v = mul-le-mul v.cores.at_most v.span_at_most

-- the size of a table, in the struct's numbers
module _ (inst : Instance) (s : Sound inst) where
  pub held_table_size : inst.cores * inst.span ≡ table_size (problem_in inst)
  unfolding problem_in
  held_table_size = ap (λ (w : ℕ). inst.cores * w) (held_span inst s)

-- the rows of the first k cores, written to the front of a buffer
unfoldable pub rows_onto : Problem → List ℕ → ℕ → List ℕ → List ℕ
rows_onto p plan k buffer = onto (joined (λ k. row (core_tasks p plan k) (span p)) k) buffer

pub no_rows_onto : (p : Problem) (plan buffer : List ℕ) → buffer ≡ rows_onto p plan 0 buffer
unfolding rows_onto onto joined
no_rows_onto p plan buffer = refl

pub all_rows_onto : (p : Problem) (plan buffer : List ℕ) (k : ℕ) → k ≡ p.cores → rows_onto p plan k buffer ≡ onto (table_of p plan) buffer
unfolding rows_onto table_of
all_rows_onto p plan buffer k all = rw all refl

pub length_rows_onto : (p : Problem) (plan buffer : List ℕ) (k : ℕ) → k ≤ p.cores → table_size p ≤ length buffer →
    length (rows_onto p plan k buffer) ≡ length buffer
unfolding rows_onto
length_rows_onto p plan buffer k h room =
    let rows : ℕ → List ℕ = λ k. row (core_tasks p plan k) (span p) in
    let written : length (joined rows k) ≡ k * span p = length_joined rows (span p) k (λ j l. row_length p plan j) in
    length_onto (joined rows k) buffer (omega (arith, mul-le-mul_right (span p) h))

-- core k's row, written after those of the cores before it
pub row_onto : (p : Problem) (plan buffer table : List ℕ) (k w : ℕ) (slots : List ℕ) → w ≡ span p → table ≡ rows_onto p plan k buffer →
    k * w + w ≤ length table → slots ≡ row (core_tasks p plan k) (length (take ((k * w + w) - k * w) (drop (k * w) table))) →
    put_mid (k * w) ((k * w + w) - k * w) table slots ≡ rows_onto p plan (k + 1) buffer
unfolding rows_onto joined
row_onto p plan buffer table k w slots wide before within filled =
    let rows : ℕ → List ℕ = λ k. row (core_tasks p plan k) (span p) in
    let its_row : slots ≡ rows k = filled ∙ ap (row (core_tasks p plan k)) (length_part table (k * w) w within ∙ wide) in
    rw (add-one k, before, its_row, wide)
    (put_onto (joined rows k) (rows k) buffer (k * span p) (span p) (length_joined rows (span p) k (λ j l. row_length p plan j)) (row_length p plan k))
