-- The lines of tasks and cores, from the fields of the struct that holds the problem.
use Prim.Native.Nat.{ℕ, ◌+◌, ◌-◌, ◌*◌, ◌/◌, ◌%◌, ◌<◌, ◌≤◌}
use Rattle.std.specs.Prelude.{List, ◌∷◌, ◌++◌, ◌≡◌, take, drop}
use Rattle.std.proofs.Math.Path.{refl, sym, ap, ap₂}
use Rattle.std.proofs.Common.{◌∙◌, mul-le-mul_right, suc-mul, sub-one, eq-eqb, ne_eqb, get_or-drop}
use Rattle.std.proofs.Math.Numerals.{add-one}
use native.Mathlib.Omega.{arith}
use Rattle.std.proofs.Math.ListN.{length, get_or, length-drop}
use Rattle.laws.specs.JoinedLaws.{list_of-same, take_is-list_of}
use Rattle.laws.specs.Lists.{list_of, joined}
use Rattle.instance.specs.Held.{problem_in, Sound, held_levelcount, held_span}
use Rattle.instance.specs.Node.{task_count, no_level, no_task, span}
use Rattle.instance.specs.declared.Instance.{Instance}
use Rattle.plan_rules.specs.HeldQuantities.{held_job_ticks}
use Rattle.plan_rules.specs.Quantities.{choice_at, core_of, level_of, ticks}
use Rattle.prices.specs.Prices.{price_of}
use Rattle.tables.specs.Tables.{table_size, slot_at}
use Rattle.prices.specs.declared.amounts.Price.{Price}
use Rattle.listing_lines.specs.ListingLines.{numbers_line, span_line, cost_line, kept_line, refused_line, task_line, core_line, plan_lines}

module _ (inst : Instance) (s : Sound inst) (plan : List ℕ) (i : ℕ) where
  pub refused_task_line : choice_at plan i ≡ 0 → task_line (problem_in inst) plan i ≡ refused_line (i + 1)
  unfolding task_line
  refused_task_line none = rw (eq-eqb (choice_at plan i) 0 none, add-one)

  pub kept_task_line : (t : ℕ) → i < task_count (problem_in inst) → (choice_at plan i ≡ 0 → ⊥) →
      t ≡ ticks inst.start (get_or inst.tasks i no_task).cycles
      (get_or inst.levels ((choice_at plan i - 1) % inst.levelcount) no_level).speed →
      task_line (problem_in inst) plan i
      ≡ kept_line (i + 1) ((choice_at plan i - 1) / inst.levelcount + 1) ((choice_at plan i - 1) % inst.levelcount + 1) t
  unfolding task_line
  kept_task_line t h kept e =
      let choice = choice_at plan i in
      let held = held_levelcount inst s in
      let core : (choice - 1) / inst.levelcount ≡ core_of (problem_in inst) plan i = ap₂ ◌/◌ (sub-one choice) held in
      let level : (choice - 1) % inst.levelcount ≡ level_of (problem_in inst) plan i = ap₂ ◌%◌ (sub-one choice) held in
      let same = e ∙ held_job_ticks inst s i h plan _ (ap (λ (n : ℕ). n % inst.levelcount) (sub-one choice)) in
      rw (ne_eqb choice 0 kept, same, add-one i, add-one (_ / _), add-one (_ % _), core, level) refl

module _ (inst : Instance) (s : Sound inst) (table : List ℕ) (whole : length table ≡ table_size (problem_in inst))
    (k : ℕ) (below : k < (problem_in inst).cores) where
  pub row_within_table : k * inst.span + inst.span ≤ length table
  row_within_table =
      let held = held_span inst s in
      let rows : k * inst.span + inst.span ≤ (problem_in inst).cores * inst.span =
      rw (← suc-mul k inst.span) (mul-le-mul_right inst.span below) in
      rw (whole, ← held) rows

  slots_of_row : list_of (slot_at (problem_in inst) table k) (span (problem_in inst)) ≡
      take (k * inst.span + inst.span - k * inst.span) (drop (k * inst.span) table)
  unfolding slot_at
  slots_of_row =
      let held = held_span inst s in
      let width : k * inst.span + inst.span - k * inst.span ≡ inst.span = omega arith in
      let long : inst.span ≤ length (drop (k * inst.span) table) =
      rw length-drop (omega (arith, row_within_table)) in
      rw (width, take_is-list_of (drop (k * inst.span) table) 0 inst.span long, ← held)
      (list_of-same _ _ _ (λ t l. ap (λ (w : ℕ). get_or table (k * w + t) 0) (sym held) ∙ sym (get_or-drop (k * inst.span) table t 0)))

  pub held_core_line : core_line (problem_in inst) table k ≡ numbers_line "core"
      ((k + 1) ∷ take (k * inst.span + inst.span - k * inst.span) (drop (k * inst.span) table))
  unfolding core_line
  held_core_line = rw (add-one, slots_of_row) refl

pub held_plan_lines : (inst : Instance) → Sound inst → (price : Price) (plan table : List ℕ) → price ≡ price_of (problem_in inst) plan →
    plan_lines (problem_in inst) plan table ≡
    span_line inst.span ++
    (cost_line price ++
    (joined (task_line (problem_in inst) plan) (task_count (problem_in inst)) ++
    joined (core_line (problem_in inst) table) (problem_in inst).cores))
unfolding plan_lines
held_plan_lines inst s price plan table e =
    rw (← held_span inst s, ← e) refl
