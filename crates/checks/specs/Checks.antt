-- The two checks of a given table: the refusals 9 and 10, after 7 and without 8.
use Rattle.std.specs.Prelude.{ℕ, suc, pred, min, ◌+◌, ◌-◌, ◌/◌, Bool, cond, not, ◌&&◌, ◌||◌, List, ltb, eqb, length, get_or, Err}
use Rattle.laws.specs.Search.{first, every, count}
use Rattle.instance.specs.Node.{Problem, task_count, task_at, span}
use Rattle.refusals.specs.Refusals.{◌and_then◌, Verdict, accepted}
use Rattle.refusals.specs.declared.Refusal.TheVariants.{GivenTable, JobSlots}
use Rattle.plan_rules.specs.Plans.{choices_pass}
use Rattle.plan_rules.specs.Quantities.{is_refused, core_of, keeps, jobs, job_ticks}
use Rattle.plan_rules.specs.Windows.{release_of, due_of, window}
use Rattle.tables.specs.Tables.{table_size, slot_at}

-- "a slot other than 0 names no kept task of its core"
unfoldable pub stray_value : Problem → List ℕ → ℕ → ℕ → Bool
stray_value p plan k slot = not (eqb slot 0) && not (keeps p plan k (pred slot))

unfoldable pub stray_slot : Problem → List ℕ → List ℕ → ℕ → Bool
stray_slot p plan table x = stray_value p plan (x / span p) (get_or table x 0)

-- 9: "another length than M × L": the smaller length; else the index of the first stray slot
unfoldable pub slots_pass : Problem → List ℕ → List ℕ → Verdict
slots_pass p plan table =
    let n = table_size p in
    let x = first (stray_slot p plan table) n in
    cond (eqb (length table) n)
    (cond (ltb x n) (Err (GivenTable x)) accepted)
    (Err (GivenTable (min (length table) n)))

-- the slots that job j of task i has between its release and its due tick
unfoldable pub job_slots : Problem → List ℕ → List ℕ → ℕ → ℕ → ℕ
job_slots p plan table i j =
    count (λ x. eqb (slot_at p table (core_of p plan i) (release_of p i j + x)) (suc i)) (window (task_at p i))

-- (c) "A task's slot between a due tick and its next release counts as one too many": those after job j of task i
unfoldable pub late_slots : Problem → List ℕ → List ℕ → ℕ → ℕ → ℕ
late_slots p plan table i j =
    count (λ x. eqb (slot_at p table (core_of p plan i) (due_of p i j + x)) (suc i)) ((task_at p i).period - window (task_at p i))

-- whether no job of task i has more or fewer slots than its ticks
unfoldable pub is_served : Problem → List ℕ → List ℕ → ℕ → Bool
is_served p plan table i =
    is_refused plan i
    || every (λ j. eqb (job_slots p plan table i j) (job_ticks p plan i) && eqb (late_slots p plan table i j) 0) (jobs p i)

-- 10: the number of the lowest task with such a job
unfoldable pub jobs_pass : Problem → List ℕ → List ℕ → Verdict
jobs_pass p plan table =
    let n = task_count p in
    let i = first (λ i. not (is_served p plan table i)) n in
    cond (ltb i n) (Err (JobSlots (suc i))) accepted

-- (d) "one part tests length and slots (9) .. both test 7 first"
unfoldable pub slot_check : Problem → List ℕ → List ℕ → Verdict
slot_check p plan table = choices_pass p plan and_then slots_pass p plan table

-- (d) "the other the jobs (10) .. The second repeats the first's tests and so keeps 9 before 10." It is the one that the papers mean
-- by "the check".
unfoldable pub check : Problem → List ℕ → List ℕ → Verdict
check p plan table = slot_check p plan table and_then jobs_pass p plan table
