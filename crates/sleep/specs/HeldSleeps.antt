-- What a core comes to, from what the code holds; and both lists, written core by core.
use Prim.Native.Nat.{ℕ, ◌+◌, ◌*◌, ◌≤◌, ◌<◌}
use Rattle.std.specs.Prelude.{Bool, List, ◌≡◌, length}
use Rattle.std.proofs.Math.Path.{refl, ap₂}
use Rattle.std.proofs.Common.{sym, le_of_eq, arith}
use Rattle.laws.specs.Lists.{list_of, onto}
use Rattle.ranges.specs.Limits.{most_idle_power, most_span}
use Rattle.instance.specs.Held.{problem_in, Sound, held_span}
use Rattle.instance.specs.Node.{Problem, span}
use Rattle.instance.specs.SpanLaws.{span_above_zero}
use Rattle.instance.specs.declared.Instance.{Instance}
use Rattle.gaps.specs.Sleeping.{row_slept}
use Rattle.tables.specs.HeldTables.{row_within_table}
use Rattle.tables.specs.Tables.{table_size}
use Rattle.sleep.specs.CoreSleeps.{costs_of, core_slept, least_energies, sleep_counts}
use Rattle.sleep.specs.RowLaws.{row_of, row_length, row_busy_as_table}
use Rattle.sleep.specs.Rows.{busy_in}

pub held_cores : (inst : Instance) → inst.cores ≡ (problem_in inst).cores
unfolding problem_in
held_cores inst = refl

module _ (inst : Instance) (s : Sound inst) where
  pub held_idle_at_most : inst.idle ≤ most_idle_power
  unfolding problem_in
  held_idle_at_most = s.valid.idle

  module _ (table : List ℕ) (k : ℕ) (whole : length table ≡ table_size (problem_in inst)) (h : k < (problem_in inst).cores) where
    pub held_row_within : k * inst.span + inst.span ≤ length table
    held_row_within = row_within_table (problem_in inst) inst.span (length table) k (held_span inst s) (le_of_eq (sym whole)) h

    span_above : 0 < inst.span
    span_above = omega (arith, held_span inst s, span_above_zero s.valid)

    same_length : length (row_of (problem_in inst) table k inst.span) ≡ span (problem_in inst)
    same_length = row_length (problem_in inst) table k inst.span (held_span inst s) span_above held_row_within

    pub held_row_at_most : length (row_of (problem_in inst) table k inst.span) ≤ most_span
    held_row_at_most = omega (arith, same_length, s.valid.span_at_most)

    pub held_core_slept : (energy time : ℕ) →
        let row = row_of (problem_in inst) table k inst.span in
        row_slept (record { idle = inst.idle; energy = energy; time = time }) (busy_in row) (length row) ≡ core_slept (problem_in inst) table energy time k
    unfolding core_slept problem_in
    held_core_slept energy time =
        ap₂ (λ (busy : ℕ → Bool) (n : ℕ). row_slept (costs_of (problem_in inst) energy time) busy n)
        (row_busy_as_table (problem_in inst) table k inst.span (held_span inst s) span_above held_row_within)
        same_length

-- what the first k cores come to, written to the fronts
module _ (p : Problem) (table : List ℕ) (energy time : ℕ) where
  abbrev pub energy_of : ℕ → ℕ
  energy_of k = (core_slept p table energy time k).energy

  abbrev pub sleeps_of : ℕ → ℕ
  sleeps_of k = (core_slept p table energy time k).sleeps

  pub all_energies_onto : (k : ℕ) (buffer : List ℕ) → k ≡ p.cores → onto (list_of energy_of k) buffer ≡ onto (least_energies p table energy time) buffer
  unfolding least_energies
  all_energies_onto k buffer all = rw all refl

  pub all_sleeps_onto : (k : ℕ) (buffer : List ℕ) → k ≡ p.cores → onto (list_of sleeps_of k) buffer ≡ onto (sleep_counts p table energy time) buffer
  unfolding sleep_counts
  all_sleeps_onto k buffer all = rw all refl
