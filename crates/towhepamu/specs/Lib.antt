pub mod ByteLists
pub mod CallOutcomes
pub mod Copies
pub mod FrontDispatchLaws
pub mod FrontPlanLaws
pub mod Lending
pub mod OwnPlanLaws
pub mod PreparedNodes
