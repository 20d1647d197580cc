pub mod Worths
pub mod WorthLaws
pub mod BestKeys
pub mod Items
