pub mod Lines
pub mod ListingLines
pub mod Placing
pub mod PlacingParts
pub mod LinesPut
pub mod LineLaws
pub mod HeldLines
