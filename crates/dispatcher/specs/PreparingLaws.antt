-- What preparing answers, case by case.
use Rattle.refusals.specs.Refusals.{accepted}
use Rattle.std.specs.Prelude.{ℕ, pred, true, false, ◌&&◌, List, ◌≡◌, refl, leb, ltb, Ok, Err}
use Rattle.std.proofs.Common.{sym}
use Rattle.std.proofs.Math.Path.{ap}
use native.Mathlib.Omega.{arith}
use Rattle.instance.specs.Node.{Problem}
use Rattle.instance.specs.SiteFile.{problem_of}
use Rattle.instance.specs.SiteFileLaws.{accepted_is_valid}
use Rattle.plan_rules.specs.Plans.{plan_passes}
use Rattle.refusals.specs.Endings.{read_then}
use Rattle.refusals.specs.declared.Refusal.{Refusal}
use Rattle.refusals.specs.declared.Refusal.TheVariants.{CoreOrState}
use Rattle.dispatcher.specs.Outcomes.{core_passes, preparing_tests}
use Rattle.dispatcher.specs.Preparing.{HoldsCore, Prepares}
use Rattle.dispatcher.specs.declared.preparing.PreparedCore.{PreparedCore}

module _ (words plan : List ℕ) (core : ℕ) where
  nothing_prepared : (r : Refusal) → read_then (problem_of words) (λ p. preparing_tests p plan core) ≡ Err r → Prepares words plan core (Err r)
  nothing_prepared r tests = record { as_tested = sym tests; holds_core = λ p read. tt; no_more_than_places = tt }

  pub reading_is_refused : (r : Refusal) → problem_of words ≡ Err r → Prepares words plan core (Err r)
  reading_is_refused r read = nothing_prepared r (rw read refl)

  module _ (p : Problem) (read : problem_of words ≡ Ok p) where
    pub plan_is_refused : (r : Refusal) → plan_passes p plan ≡ Err r → Prepares words plan core (Err r)
    plan_is_refused r tests = nothing_prepared r (rw (read, tests) refl)

    module _ (passes : plan_passes p plan ≡ accepted) where
      pub core_is_refused : ltb 0 core && leb core p.cores ≡ false → Prepares words plan core (Err CoreOrState)
      unfolding core_passes
      core_is_refused outside = nothing_prepared CoreOrState (rw (read, passes, outside) refl)

      pub core_is_prepared : ltb 0 core && leb core p.cores ≡ true → (prepared : PreparedCore) → HoldsCore p plan (pred core) prepared →
          Prepares words plan core (Ok prepared)
      unfolding core_passes
      core_is_prepared inside prepared holds = record {
        as_tested = rw (read, passes, inside) refl;
        holds_core = λ q other. let same : p ≡ q = cc in rw (← same) holds;
        no_more_than_places =
            omega (
              arith,
              ap (λ (c : PreparedCore). c.count) holds.is_core,
              holds.its_columns.no_more,
              (accepted_is_valid words read).task_count_bound,
            );
      }
