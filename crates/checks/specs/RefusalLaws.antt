-- Which refusals the tests of a table can return, by number.
use Rattle.std.specs.Prelude.{ℕ, List, [], ◌∷◌, refl, ltb, length}
use mathlib.Core.List.Memᴰ
use Rattle.laws.specs.Search.{first}
use Rattle.instance.specs.Node.{Problem, task_count}
use Rattle.refusals.specs.RefusalNumbers.{RefusesOnly, and_then-refuses, refuses_if, fails_at}
use Rattle.refusals.specs.declared.Refusal.TheVariants.{GivenTable, JobSlots}
use Rattle.checks.specs.Checks.{stray_slot, slots_pass, jobs_pass, slot_check, check}
use Rattle.tables.specs.Tables.{table_size}
use Rattle.plan_rules.specs.RefusalLaws.{choices_refuse_7}

module _ (p : Problem) (plan table : List ℕ) where
  slots_refuse_9 : RefusesOnly (9 ∷ []) (slots_pass p plan table)
  unfolding slots_pass
  slots_refuse_9 = fails_at GivenTable (9 ∷ []) (λ place. Memᴰ.head refl) (stray_slot p plan table) (length table) (table_size p)

  jobs_refuse_10 : RefusesOnly (10 ∷ []) (jobs_pass p plan table)
  unfolding jobs_pass
  jobs_refuse_10 = refuses_if (JobSlots _) (Memᴰ.head refl) (ltb (first _ (task_count p)) _)

  pub slot_check_refuses_7_9 : RefusesOnly (7 ∷ 9 ∷ []) (slot_check p plan table)
  unfolding slot_check
  slot_check_refuses_7_9 = and_then-refuses (choices_refuse_7 p plan) slots_refuse_9

  pub check_refuses_7_9_10 : RefusesOnly (7 ∷ 9 ∷ 10 ∷ []) (check p plan table)
  unfolding check
  check_refuses_7_9_10 = and_then-refuses slot_check_refuses_7_9 jobs_refuse_10
