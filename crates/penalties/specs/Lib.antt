pub mod Penalties
pub mod UnreadLaws
pub mod RaisedPlanLaws
pub mod LeastCostTheorem
pub mod RiseLaws
pub mod OnePenaltyTheorem
