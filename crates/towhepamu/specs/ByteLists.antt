-- Choices fit bytes: a choice is at most 32.
use Rattle.std.specs.Prelude.{ℕ, ◌*◌, ◌<◌, ◌≤◌, List, ◌≡◌, length, get_or}
use Rattle.std.proofs.Math.Option.{some}
use Rattle.std.proofs.Common.{mul-le-mul, arith}
use Rattle.ranges.specs.Limits.{most_cores, most_levels}
use Rattle.instance.specs.Node.{Problem, level_count}
use Rattle.instance.specs.Valid.{Valid}
use Rattle.planner.specs.BestPlanLaws.{best_plan_passes}
use Rattle.planner.specs.OptionsLaws.{passing_choices}
use Rattle.planner.specs.Planning.{best_plan}

pub record ByteList (xs : List ℕ) : Type 0 where
  pub fits : (i : ℕ) → i < length xs → get_or xs i 0 < 256

pub best_plan_fits_bytes : (p : Problem) → Valid p → {best : List ℕ} → best_plan p ≡ some best → ByteList best
best_plan_fits_bytes p valid {best} e =
    let allowed = passing_choices p best (best_plan_passes p e) in
    let most : p.cores * level_count p ≤ most_cores * most_levels = mul-le-mul valid.cores.at_most valid.level_count_bound.at_most in
    record { fits = λ i l. omega (arith, allowed.choices_in_range i (omega (arith, allowed.one_choice_per_task))) }
