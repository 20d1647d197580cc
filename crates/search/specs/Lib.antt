pub mod Limits
pub mod Found
pub mod FoundLaws
pub mod ChosenTables
pub mod PlanLaws
