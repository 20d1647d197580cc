-- The test of a table's jobs by numbers, and these from the fields of the struct that holds the problem.
use Prim.Native.Nat.{ℕ, pred, ◌+◌, ◌*◌, ◌-◌, ◌/◌, ◌≤◌, ◌<◌}
use Rattle.std.specs.Prelude.{Bool, true, ◌&&◌, ◌||◌, ◌↔◌, ◌≡◌, eqb, length, get_or, drop}
use mathlib.Core.List.{List}
use mathlib.Core.Logic.Iff
use Rattle.std.proofs.Math.Path.{refl}
use Rattle.std.proofs.Common.{sym, ap, ◌∙◌, div-lt_iff_lt-mul, le-mul_of_pos_right, le_of_eq, mul-le-mul_right, add-one, arith, eqb-true, eq-eqb, ne_eqb}
use Rattle.std.proofs.lemmas.Bool.{eqb-false}
use Rattle.std.proofs.Math.ListN.{take}
use Rattle.laws.specs.CountLaws.{none_counted}
use Rattle.laws.specs.PartLaws.{length_part, get_d_part}
use Rattle.laws.specs.Search.{every, count}
use Rattle.laws.specs.SearchFacts.{count_same, count_of_none}
use Rattle.laws.specs.Truth.{and_is_true}
use Rattle.instance.specs.Held.{problem_in, Sound, held_levelcount, held_span, held_task}
use Rattle.instance.specs.Node.{Problem, level_count, task_count, task_at, no_task, span}
use Rattle.instance.specs.Valid.{Valid}
use Rattle.instance.specs.declared.Instance.{Instance}
use Rattle.instance.specs.declared.Task.{Task}
use Rattle.job_counts.proofs.JobCountLaws.{right_iff}
use Rattle.job_counts.specs.JobCounts.{slots_held, count_job, HasItsTicks}
use Rattle.job_counts.specs.declared.CountKind.TheVariants.{Right}
use Rattle.checks.specs.Checks.{job_slots, late_slots, is_served}
use Rattle.plan_rules.specs.AllowedPlans.{AllowedPlan}
use Rattle.tables.specs.HeldTables.{row_within_table}
use Rattle.plan_rules.specs.Quantities.{choice_at, core_of, jobs, job_ticks}
use Rattle.plan_rules.specs.Windows.{window}
use Rattle.tables.specs.Tables.{table_size, slot_at}

-- a choice of at most M × H names one of the M cores
core_in_range : (p : Problem) → Valid p → (plan : List ℕ) → AllowedPlan p plan → (i : ℕ) → i < task_count p → core_of p plan i < p.cores
core_in_range p v plan allowed i h =
    let some : p.cores ≤ p.cores * level_count p = le-mul_of_pos_right p.cores v.level_count_bound.at_least in
    (div-lt_iff_lt-mul v.level_count_bound.at_least).1 (omega (arith, allowed.choices_in_range i h, v.cores.at_least))

-- whether job j holds a number in t of the d slots of its window, and in none after them up to the next release: the first job's slots
-- begin at a slot of a table, the next one's a period on
unfoldable pub job_served_at : List ℕ → (from number period d t j : ℕ) → Bool
job_served_at table from number period d t j =
    eqb (count (λ x. eqb (get_or table (from + (j * period + x)) 0) number) d) t
    && eqb (count (λ x. eqb (get_or table (from + ((j * period + d) + x)) 0) number) (period - d)) 0

unfoldable pub jobs_served : List ℕ → (from number period d n t : ℕ) → Bool
jobs_served table from number period d n t = every (job_served_at table from number period d t) n

module _ (table : List ℕ) (from number period d : ℕ) where
  pub job_within : (n j : ℕ) → from + n * period ≤ length table → j < n → (from + j * period) + period ≤ length table
  job_within n j room l = omega (arith, mul-le-mul_right period l)

  pub right_in_table : (t j : ℕ) → d ≤ period → (from + j * period) + period ≤ length table →
      ((count_job (take (((from + j * period) + period) - (from + j * period)) (drop (from + j * period) table)) number d t).kind ≡ Right)
      ↔ (job_served_at table from number period d t j ≡ true)
  unfolding job_served_at slots_held
  right_in_table t j short within = Iff.trans (right_iff part number d t (rw long short)) (served, right)
    where
      part : List ℕ
      part = take (((from + j * period) + period) - (from + j * period)) (drop (from + j * period) table)

      long : length part ≡ period
      long = length_part table (from + j * period) period within

      slot : (x y : ℕ) → x < period → (from + j * period) + x ≡ y → get_or part x 0 ≡ get_or table y 0
      slot x y l same = get_d_part table (from + j * period) period x 0 l ∙ ap (λ (z : ℕ). get_or table z 0) same

      in_window : slots_held part number d ≡ count (λ x. eqb (get_or table (from + (j * period + x)) 0) number) d
      in_window = count_same _ _ d (λ x l. ap (λ (v : ℕ). eqb v number) (slot x _ (omega arith) (omega arith)))

      served : HasItsTicks part number d t → job_served_at table from number period d t j ≡ true
      served has =
          (and_is_true _ _).1 (
            eq-eqb _ _ (sym in_window ∙ has.in_window),
            eq-eqb _ _ (count_of_none _ (period - d) (λ x (l : x < period - d).
                ne_eqb _ _ (λ shown. has.none_after (d + x) (omega arith) (rw long (omega arith)) (slot (d + x) _ (omega arith) (omega arith) ∙ shown)))),
          )

      right : job_served_at table from number period d t j ≡ true → HasItsTicks part number d t
      right e =
          let both = (and_is_true _ _).0 e in
          record {
            in_window = in_window ∙ eqb-true _ _ both.0;
            none_after = λ x due l shown.
                let h : x < period = rw long at l in
                eqb-false _ _ (none_counted _ _ (eqb-true _ _ both.1) (x - d) (omega arith)) (sym (slot x _ h (omega arith)) ∙ shown);
          }

-- whether a task with this number and choice is refused, or each of its jobs served: a row has w slots
unfoldable pub task_served : List ℕ → (w levels number choice period d t : ℕ) → Bool
task_served table w levels number choice period d t =
    eqb choice 0 || jobs_served table (pred choice / levels * w) number period d (w / period) t

module _ (table : List ℕ) (w levels number choice period d t : ℕ) where
  pub refused_task_is_served : choice ≡ 0 → true ≡ task_served table w levels number choice period d t
  unfolding task_served
  refused_task_is_served refused = rw (eq-eqb choice 0 refused) refl

  pub kept_task_is_served_if_its_jobs_are : (choice ≡ 0 → ⊥) → (from n due : ℕ) → from ≡ pred choice / levels * w → n ≡ w / period → due ≡ d →
      jobs_served table from number period due n t ≡ task_served table w levels number choice period d t
  unfolding task_served
  kept_task_is_served_if_its_jobs_are kept from n due row all same = rw (ne_eqb choice 0 kept, row, all, same) refl

pub task_served_is_served : (p : Problem) (plan table : List ℕ) (i : ℕ) {w levels period d t : ℕ} → w ≡ span p → levels ≡ level_count p →
    period ≡ (task_at p i).period → d ≡ window (task_at p i) → t ≡ job_ticks p plan i →
    task_served table w levels (i + 1) (choice_at plan i) period d t ≡ is_served p plan table i
unfolding task_served jobs_served job_served_at is_served job_slots late_slots slot_at jobs
task_served_is_served p plan table i wide many its_period its_window each = rw (add-one, wide, many, its_period, its_window, each) refl

module _ (inst : Instance) (s : Sound inst) (i : ℕ) (h : i < task_count (problem_in inst)) where
  pub held_window : window (get_or inst.tasks i no_task) ≡ window (task_at (problem_in inst) i)
  held_window = ap (λ (t : Task). window t) (held_task inst s i h)

  pub held_window_within_period : window (get_or inst.tasks i no_task) ≤ (get_or inst.tasks i no_task).period
  held_window_within_period = rw (held_task inst s i h) (s.valid.task i h).deadline.at_most

module _ (inst : Instance) (s : Sound inst) (plan : List ℕ) (i : ℕ) (h : i < task_count (problem_in inst)) where
  pub held_row_within : AllowedPlan (problem_in inst) plan → (n : ℕ) → n ≡ table_size (problem_in inst) →
      pred (choice_at plan i) / inst.levelcount * inst.span + inst.span ≤ n
  held_row_within allowed n whole =
      rw (held_levelcount inst s)
      (row_within_table (problem_in inst) inst.span n _ (held_span inst s) (le_of_eq (sym whole)) (core_in_range (problem_in inst) s.valid plan allowed i h))
