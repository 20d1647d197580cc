-- What does not read a penalty is the same for two problems that are alike but for penalties: span, jobs, ticks, what fits, and
-- energy.
use Prim.Native.Nat.{ℕ, suc, ◌+◌, ◌*◌, ◌/◌}
use Rattle.std.specs.Prelude.{Bool, List, [], ◌∷◌, map, ◌≡◌, refl, Err}
use Rattle.std.proofs.Math.Bool.{cond, not}
use Rattle.std.proofs.Common.{sym, ◌∙◌}
use Rattle.std.proofs.Math.Path.{ap, ap₂, fun_ext}
use Rattle.std.proofs.Math.Dec.{ltb}
use Rattle.std.proofs.lemmas.List.{length-map}
use Rattle.std.proofs.Math.ListN.{get_or-map}
use Rattle.laws.specs.Multiples.{lcm}
use Rattle.laws.specs.Search.{first}
use Rattle.laws.specs.Sums.{sum}
use Rattle.refusals.specs.Refusals.{accepted}
use Rattle.instance.specs.Node.{Problem, task_count, level_at, task_at, no_task, span_from, span}
use Rattle.instance.specs.declared.Task.{Task}
use Rattle.refusals.specs.declared.Refusal.TheVariants.{CoreOverloaded}
use Rattle.edf.specs.Demand.{meets_demand}
use Rattle.plan_rules.specs.CoreOfPlan.{core_tasks}
use Rattle.plan_rules.specs.Plans.{most_choice, fits, cores_fit}
use Rattle.plan_rules.specs.Quantities.{level_of, keeps, ticks, job_ticks, ticks_on, jobs, load_on, core_load}
use Rattle.plan_rules.specs.Windows.{window}
use Rattle.prices.specs.Prices.{busy_energy, kept_count, is_awake, idle_ticks, core_energy, energy}
use Rattle.penalties.specs.Penalties.{with_penalty, without_penalties}

-- the same of a problem as of the problem without its penalties
abbrev pub ReadsNoPenalty {ℓ} : {A : Type ℓ} → (Problem → A) → Type ℓ
ReadsNoPenalty f = (p : Problem) → f (without_penalties p) ≡ f p

pub same_where_alike {ℓ} : {A : Type ℓ} {f : Problem → A} {low high : Problem} →
    ReadsNoPenalty f → without_penalties low ≡ without_penalties high → f low ≡ f high
same_where_alike {f = f} {low} {high} unread alike = sym (unread low) ∙ ap f alike ∙ unread high

task_without_penalty : (i : ℕ) (p : Problem) → task_at (without_penalties p) i ≡ with_penalty 0 (task_at p i)
unfolding without_penalties
task_without_penalty i p = get_or-map (with_penalty 0) p.tasks i no_task

-- what is read of a task but its penalty
of_task {ℓ} : {A : Type ℓ} (f : Task → A) (i : ℕ) (p : Problem) → f (task_at (without_penalties p) i) ≡ f (with_penalty 0 (task_at p i))
of_task f i p = ap f (task_without_penalty i p)

pub weights_unread : ReadsNoPenalty (λ p. p.weights)
unfolding without_penalties
weights_unread p = refl

pub most_choice_unread : ReadsNoPenalty most_choice
unfolding without_penalties
most_choice_unread p = refl

pub task_count_unread : ReadsNoPenalty task_count
unfolding without_penalties
task_count_unread p = length-map p.tasks (with_penalty 0)

span_from_unread : (so_far : ℕ) (tasks : List Task) → span_from so_far (map (with_penalty 0) tasks) ≡ span_from so_far tasks
unfolding span_from
span_from_unread so_far [] = refl
span_from_unread so_far (t ∷ tasks) = span_from_unread (lcm so_far t.period) tasks

span_unread : ReadsNoPenalty span
unfolding span without_penalties
span_unread p = span_from_unread 1 p.tasks

pub jobs_unread : (i : ℕ) → ReadsNoPenalty (λ p. jobs p i)
unfolding jobs
jobs_unread i p = ap₂ ◌/◌ (span_unread p) (of_task (λ (t : Task). t.period) i p)

module _ (plan : List ℕ) where
  job_ticks_unread : (i : ℕ) → ReadsNoPenalty (λ p. job_ticks p plan i)
  unfolding job_ticks without_penalties
  job_ticks_unread i p = of_task (λ (t : Task). ticks p.start t.cycles (level_at p (level_of p plan i)).speed) i p

  ticks_on_unread : (k i : ℕ) → ReadsNoPenalty (λ p. ticks_on p plan k i)
  unfolding ticks_on keeps without_penalties
  ticks_on_unread k i p = ap (λ (n : ℕ). cond (keeps p plan k i) n 0) (job_ticks_unread i p)

  core_tasks_unread : (k : ℕ) → ReadsNoPenalty (λ p. core_tasks p plan k)
  unfolding core_tasks
  core_tasks_unread k p =
      λ d.
      record {
        size = task_count_unread p d;
        period = λ i. of_task (λ (t : Task). t.period) i p d;
        window = λ i. of_task window i p d;
        ticks = λ i. ticks_on_unread k i p d;
      }

  fits_unread : (k : ℕ) → ReadsNoPenalty (λ p. fits p plan k)
  unfolding fits
  fits_unread k p = ap₂ meets_demand (core_tasks_unread k p) (span_unread p)

  pub cores_fit_unread : ReadsNoPenalty (λ p. cores_fit p plan)
  unfolding cores_fit without_penalties
  cores_fit_unread p =
      ap
      (λ (fails : ℕ → Bool). let k = first fails p.cores in cond (ltb k p.cores) (Err (CoreOverloaded (suc k))) accepted)
      (fun_ext (λ k. ap not (fits_unread k p)))

  load_on_unread : (k i : ℕ) → ReadsNoPenalty (λ p. load_on p plan k i)
  unfolding load_on
  load_on_unread k i p = ap₂ ◌*◌ (jobs_unread i p) (ticks_on_unread k i p)

  core_load_unread : (k : ℕ) → ReadsNoPenalty (λ p. core_load p plan k)
  unfolding core_load
  core_load_unread k p = ap₂ sum (fun_ext (λ i. load_on_unread k i p)) (task_count_unread p)

  busy_energy_unread : (k : ℕ) → ReadsNoPenalty (λ p. busy_energy p plan k)
  unfolding busy_energy without_penalties
  busy_energy_unread k p =
      ap₂ sum (fun_ext (λ i. ap (λ (n : ℕ). n * (level_at p (level_of p plan i)).power) (load_on_unread k i p))) (task_count_unread p)

  is_awake_unread : (k : ℕ) → ReadsNoPenalty (λ p. is_awake p plan k)
  unfolding is_awake kept_count keeps without_penalties
  is_awake_unread k p = ap (λ (n : ℕ). ltb 0 (sum (λ i. cond (keeps p plan k i) 1 0) n)) (task_count_unread p)

  idle_ticks_unread : (k : ℕ) → ReadsNoPenalty (λ p. idle_ticks p plan k)
  unfolding idle_ticks
  idle_ticks_unread k p = rw (is_awake_unread k p, span_unread p, core_load_unread k p)

  core_energy_unread : (k : ℕ) → ReadsNoPenalty (λ p. core_energy p plan k)
  unfolding core_energy without_penalties
  core_energy_unread k p = ap₂ (λ (busy idle : ℕ). busy + p.idle * idle) (busy_energy_unread k p) (idle_ticks_unread k p)

  pub energy_unread : ReadsNoPenalty (λ p. energy p plan)
  unfolding energy without_penalties
  energy_unread p = ap (λ (f : ℕ → ℕ). sum f p.cores) (fun_ext (λ k. core_energy_unread k p))
