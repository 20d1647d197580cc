pub mod JobCountLaws
pub mod JobCountSteps
