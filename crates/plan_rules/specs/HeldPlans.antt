-- Which plans may be given, from the fields of the struct that holds the problem, test by test as the code makes them.
use Rattle.std.specs.Prelude.{ℕ, ◌*◌, ◌≤◌, Bool, true, false, ◌&&◌, ◌||◌, List, ◌≡◌}
use Rattle.std.proofs.Math.Path.{refl, ap₂}
use Rattle.std.proofs.Common.{ap, mul-le-mul, arith, le-ltb, eq-eqb, ne_eqb}
use Rattle.std.proofs.Math.Dec.{ltb, eqb}
use Rattle.instance.specs.Held.{problem_in, Sound, held_levelcount}
use Rattle.ranges.specs.Limits.{most_cores, most_levels, may_not_be_refused}
use Rattle.instance.specs.Node.{task_at}
use Rattle.instance.specs.declared.Instance.{Instance}
use Rattle.instance.specs.declared.Task.{Task}
use Rattle.plan_rules.specs.HeldQuantities.{level_count_at_most}
use Rattle.plan_rules.specs.Plans.{is_must, most_choice, bad_choice}
use Rattle.plan_rules.specs.Quantities.{choice_at}

or_nothing : (a : Bool) → a ≡ a || false
or_nothing true = refl
or_nothing false = refl

module _ (choice penalty most : ℕ) where
  pub refused_is_bad_if_must : choice ≡ 0 → eqb penalty may_not_be_refused ≡ (ltb most choice || (eqb choice 0 && eqb penalty may_not_be_refused))
  refused_is_bad_if_must none = rw (le-ltb most choice (omega arith), eq-eqb choice 0 none) refl

  pub kept_is_bad_above_most : (choice ≡ 0 → ⊥) → ltb most choice ≡ (ltb most choice || (eqb choice 0 && eqb penalty may_not_be_refused))
  kept_is_bad_above_most kept = rw (ne_eqb choice 0 kept) (or_nothing (ltb most choice))

module _ (inst : Instance) (s : Sound inst) where
  pub held_cores : inst.cores ≡ (problem_in inst).cores
  unfolding problem_in
  held_cores = refl

  pub cores_at_most : inst.cores ≤ most_cores
  cores_at_most = omega (arith, held_cores, s.valid.cores.at_most)

  held_most_choice : inst.cores * inst.levelcount ≡ most_choice (problem_in inst)
  held_most_choice = ap₂ (λ (m h : ℕ). m * h) held_cores (held_levelcount inst s)

  pub most_choice_at_most : inst.cores * inst.levelcount ≤ most_cores * most_levels
  most_choice_at_most = mul-le-mul cores_at_most (level_count_at_most inst s)

  pub held_bad_choice : (plan : List ℕ) (i : ℕ) (task : Task) → task ≡ task_at (problem_in inst) i →
      (ltb (inst.cores * inst.levelcount) (choice_at plan i) || (eqb (choice_at plan i) 0 && eqb task.penalty may_not_be_refused))
      ≡ bad_choice (problem_in inst) plan i
  unfolding bad_choice is_must
  held_bad_choice plan i task same =
      ap₂ (λ (most penalty : ℕ). ltb most (choice_at plan i) || (eqb (choice_at plan i) 0 && eqb penalty may_not_be_refused)) held_most_choice
      (ap (λ (t : Task). t.penalty) same)
