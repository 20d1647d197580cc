pub mod CheapestChoices
pub mod CheapestChoiceLaws
pub mod Picks
pub mod Light
pub mod LightLaws
