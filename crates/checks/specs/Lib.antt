pub mod Checks
pub mod NamedSlots
pub mod CheckLaws
pub mod Outcomes
pub mod RefusalLaws
pub mod EndingLaws
pub mod HeldSlots
pub mod HeldJobs
