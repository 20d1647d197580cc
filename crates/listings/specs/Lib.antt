pub mod Listing
pub mod Outcomes
pub mod Examples
pub mod LineLengths
pub mod ListingLength
pub mod ListingLaws
pub mod OutcomeLaws
pub mod LongTextLaws
