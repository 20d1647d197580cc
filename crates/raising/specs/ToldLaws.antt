-- What a round tells of the best plan.
use Rattle.std.specs.Prelude.{◌^◌, ◌≤◌, ◌<◌, ◌≡◌, ℕ, Option, Some, None, MatchOption}
use Rattle.assignment.specs.Keys.{key_base}
use Rattle.assignment.specs.Words.{no_cost, words_none}
use Rattle.values.specs.declared.value.Worth.{Worth}
use Rattle.raising.specs.SiteLaws.{key_is_plan, nothing_found, plan_settled}
use Rattle.raising.specs.Tables.{TableRaised, PlanRaised, RoundOf, RoundTold, BestTold}
use Rattle.raising.specs.declared.offer.Offer.{Offer}
use Rattle.raising.specs.declared.table.Table.{Table}

pub round_told : (offer : Offer) (table : Table) {worth : Worth} (told : Option Worth) → RoundOf offer table worth →
    MatchOption told (no_cost ≤ worth.cost) (λ w. (w ≡ worth) × (worth.cost < no_cost)) → RoundTold offer table told
round_told offer table {worth} None found dear = (worth, dear, found)
round_told offer table (Some w) found (same, real) = rw same (real, found)

module _ (offer : Offer) (table : Table) (raised : TableRaised offer table) where
  pub none_told : RoundTold offer table None → BestTold offer None
  none_told (worth, dear, found) =
      rw (words_none worth.cost worth.key dear) at (nothing_found offer.ready offer.refusals raised found dear)

  module _ (worth : Worth) (told : RoundTold offer table (Some worth)) where
    pub told_key : worth.key < key_base ^ offer.site.items
    told_key = key_is_plan offer.ready offer.refusals raised told.1 told.0

    pub settled_told : (after : Table) {tried : ℕ} → PlanRaised offer worth.key table after tried → tried ≡ 0 → BestTold offer (Some worth)
    settled_told after sets none =
        record { real = told.0; key_bound = told_key; best_answers = plan_settled offer.ready offer.refusals raised told.1 sets none told.0 }
