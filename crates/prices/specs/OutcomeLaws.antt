-- Pricing of a plan that passes, for an instance that was read.
use Rattle.refusals.specs.Refusals.{accepted}
use Rattle.std.specs.Prelude.{ℕ, List, ◌≡◌, Ok}
use Rattle.std.proofs.Math.Path.{ap}
use Rattle.std.proofs.Common.{◌∙◌}
use Rattle.instance.specs.Node.{Problem}
use Rattle.instance.specs.SiteFile.{problem_of}
use Rattle.prices.specs.Outcomes.{price_outcome, price_outcome_of, priced_if}
use Rattle.plan_rules.specs.Plans.{plan_passes}
use Rattle.prices.specs.Prices.{price_of}

module _ (words : List ℕ) (p : Problem) (read : problem_of words ≡ Ok p) where
  pub passing_plan_is_priced : (plan : List ℕ) → plan_passes p plan ≡ accepted → price_outcome words plan ≡ Ok (price_of p plan)
  unfolding price_outcome
  passing_plan_is_priced plan passes =
      ap (λ r. price_outcome_of r plan) read ∙ ap (λ v. priced_if v (price_of p plan)) passes
