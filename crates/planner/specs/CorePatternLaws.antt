-- A core runs its pattern as the first core would: it asks for the same load and draws the same energy.
use Rattle.std.specs.Prelude.{ℕ, zero, suc, pred, ◌*◌, ◌/◌, ◌%◌, Bool, true, false, not, ◌&&◌, List, [], ◌∷◌, ◌≡◌, eqb, length}
use Rattle.std.proofs.Math.Bool.{cond}
use Rattle.std.proofs.Math.Path.{refl, ap}
use Rattle.std.proofs.Math.Nat.{div-zero, div-eq_of_lt, mod-mod}
use Rattle.std.proofs.Common.{mod-lt, zero-lt-suc, arith}
use Rattle.std.proofs.Math.Dec.{eqb-suc-zero}
use Rattle.laws.specs.SumLaws.{sum_cong}
use Rattle.instance.specs.Node.{Problem, level_count, task_count, task_at, level_at, span}
use Rattle.dispatch.specs.Rows.{CoreTasks}
use Rattle.edf.specs.Demand.{meets_demand}
use Rattle.plan_rules.specs.CoreOfPlan.{core_tasks}
use Rattle.plan_rules.specs.Windows.{window}
use Rattle.plan_rules.specs.Plans.{fits}
use Rattle.plan_rules.specs.Quantities.{choice_at, keeps, jobs, ticks, job_ticks, ticks_on, load_on, core_load}
use Rattle.prices.specs.Prices.{busy_energy, kept_count, is_awake, idle_ticks, core_energy}
use Rattle.assignment.specs.Assignment.{on_core, core_pattern}

pub core_pattern-length : (levels k : ℕ) (plan : List ℕ) → length (core_pattern levels k plan) ≡ length plan
unfolding core_pattern
core_pattern-length levels k [] = refl
core_pattern-length levels k (c ∷ plan) = ap suc (core_pattern-length levels k plan)

core_pattern-at : (levels k : ℕ) (plan : List ℕ) (i : ℕ) → choice_at (core_pattern levels k plan) i ≡ on_core levels k (choice_at plan i)
unfolding core_pattern on_core
core_pattern-at levels k [] i = refl
core_pattern-at levels k (c ∷ plan) zero = refl
core_pattern-at levels k (c ∷ plan) (suc i) = core_pattern-at levels k plan i

-- also of 0, by which division gives 0
rest_div : (m n : ℕ) → m % n / n ≡ 0
rest_div m zero = div-zero _
rest_div m (suc n) = div-eq_of_lt (mod-lt m (zero-lt-suc n))

-- whether choice c keeps its item on core k, and at which level
abbrev is_on : (levels k c : ℕ) → Bool
is_on levels k c = not (eqb c 0) && eqb (pred c / levels) k

abbrev level_in : (levels c : ℕ) → ℕ
level_in levels c = pred c % levels

-- what depends on the core's own choices alone is the same of the pattern on core 0
same_on_core : (F : Bool → ℕ → ℕ) → ((l m : ℕ) → F false l ≡ F false m) → (levels k c : ℕ) →
    F (is_on levels 0 (on_core levels k c)) (level_in levels (on_core levels k c)) ≡ F (is_on levels k c) (level_in levels c)
unfolding on_core
same_on_core F idle levels k c = go (is_on levels k c)
  where
    level : ℕ
    level = level_in levels c

    go : (b : Bool) → F (is_on levels 0 (cond b (suc level) 0)) (level_in levels (cond b (suc level) 0)) ≡ F b level
    go true = rw (eqb-suc-zero, rest_div (pred c) levels, mod-mod (pred c) levels)
    go false = idle _ _

module _ (p : Problem) (plan : List ℕ) (k : ℕ) where
  -- the load of task i where it is kept at level l, and the energy
  load_if : ℕ → Bool → ℕ → ℕ
  load_if i b l = jobs p i * cond b (ticks p.start (task_at p i).cycles (level_at p l).speed) 0

  energy_if : ℕ → Bool → ℕ → ℕ
  energy_if i b l = load_if i b l * (level_at p l).power

  load_of_pattern : (i : ℕ) → load_on p (core_pattern (level_count p) k plan) 0 i ≡ load_on p plan k i
  unfolding load_on ticks_on keeps job_ticks load_if
  load_of_pattern i =
      rw (core_pattern-at (level_count p) k plan i)
      (same_on_core (load_if i) (λ l m. refl) (level_count p) k (choice_at plan i))

  core_load-of_pattern : core_load p (core_pattern (level_count p) k plan) 0 ≡ core_load p plan k
  unfolding core_load
  core_load-of_pattern = sum_cong _ _ (task_count p) (λ i h. load_of_pattern i)

  ticks_of_pattern : (i : ℕ) → ticks_on p (core_pattern (level_count p) k plan) 0 i ≡ ticks_on p plan k i
  unfolding ticks_on keeps job_ticks
  ticks_of_pattern i =
      rw (core_pattern-at (level_count p) k plan i)
      (same_on_core (λ b l. cond b (ticks p.start (task_at p i).cycles (level_at p l).speed) 0) (λ l m. refl) (level_count p) k (choice_at plan i))

  tasks_of_pattern : core_tasks p (core_pattern (level_count p) k plan) 0 ≡ core_tasks p plan k
  unfolding core_tasks
  tasks_of_pattern = λ j.
      record {
        size = task_count p;
        period = λ i. (task_at p i).period;
        window = λ i. window (task_at p i);
        ticks = λ i. ticks_of_pattern i j;
      }

  pub fits_of_pattern : fits p (core_pattern (level_count p) k plan) 0 ≡ fits p plan k
  unfolding fits
  fits_of_pattern = ap (λ (core : CoreTasks). meets_demand core (span p)) tasks_of_pattern

  busy_of_pattern : busy_energy p (core_pattern (level_count p) k plan) 0 ≡ busy_energy p plan k
  unfolding busy_energy load_on ticks_on keeps job_ticks load_if energy_if
  busy_of_pattern =
      sum_cong _ _ (task_count p)
      (λ i h.
      rw (core_pattern-at (level_count p) k plan i)
      (same_on_core (energy_if i) (λ l m. omega arith) (level_count p) k (choice_at plan i)))

  count_of_pattern : kept_count p (core_pattern (level_count p) k plan) 0 ≡ kept_count p plan k
  unfolding kept_count keeps
  count_of_pattern =
      sum_cong _ _ (task_count p)
      (λ i h.
      rw (core_pattern-at (level_count p) k plan i)
      (same_on_core (λ b l. cond b 1 0) (λ l m. refl) (level_count p) k (choice_at plan i)))

  pub energy_of_pattern : core_energy p (core_pattern (level_count p) k plan) 0 ≡ core_energy p plan k
  unfolding core_energy idle_ticks is_awake
  energy_of_pattern = rw (busy_of_pattern, count_of_pattern, core_load-of_pattern) refl
