-- Which tasks a plan keeps on a core, with which ticks there.
use Rattle.std.specs.Prelude.{ℕ, ◌<◌, Bool, not, List, ◌↔◌, ◌≡◌}
use Rattle.std.proofs.Math.Bool.{true, false, cond}
use Rattle.std.proofs.Math.Path.{refl}
use Rattle.std.proofs.Common.{ap, arith, eqb-true, eq-eqb, ne_eqb}
use Rattle.std.proofs.lemmas.Bool.{eqb-false, not-true}
use Rattle.laws.specs.Truth.{and_is_true}
use Rattle.instance.specs.Node.{Problem, task_count}
use Rattle.plan_rules.specs.AllowedPlans.{AllowedPlan}
use Rattle.plan_rules.specs.PlanLaws.{choice_in_range_names}
use Rattle.plan_rules.specs.Quantities.{choice_at, core_of, keeps, job_ticks, ticks_on}

pub keeps_iff : (p : Problem) (plan : List ℕ) (k i : ℕ) →
    (keeps p plan k i ≡ true) ↔ ((choice_at plan i ≡ 0 → ⊥) × (core_of p plan i ≡ k))
unfolding keeps
keeps_iff p plan k i = (
  λ e. let both = (and_is_true _ _).0 e in (eqb-false _ _ (not-true _ both.0), eqb-true _ _ both.1),
  λ both. (and_is_true _ _).1 (ap not (ne_eqb _ _ both.0), eq-eqb _ _ both.1),
)

module _ (p : Problem) (plan : List ℕ) where
  pub ticks_where_kept : (k i : ℕ) → (choice_at plan i ≡ 0 → ⊥) → core_of p plan i ≡ k → ticks_on p plan k i ≡ job_ticks p plan i
  unfolding ticks_on
  ticks_where_kept k i kept core = rw ((keeps_iff p plan k i).1 (kept, core))

  pub kept_where_ticks : (k i : ℕ) → 0 < ticks_on p plan k i → keeps p plan k i ≡ true
  unfolding ticks_on
  kept_where_ticks k i = go (keeps p plan k i)
    where
      go : (keeps_it : Bool) → 0 < cond keeps_it (job_ticks p plan i) 0 → keeps_it ≡ true
      go true h = refl
      go false h = absurd (omega arith)

  pub core_of_kept : AllowedPlan p plan → (i : ℕ) → i < task_count p → (choice_at plan i ≡ 0 → ⊥) → core_of p plan i < p.cores
  core_of_kept allowed i h kept = (choice_in_range_names p plan i kept (allowed.choices_in_range i h)).is_core
