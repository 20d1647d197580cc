pub mod Prices
pub mod Outcomes
pub mod OutcomeLaws
pub mod EndingLaws
pub mod IdleLaws
pub mod PriceBounds
pub mod HeldPrices
pub mod KeptEnergyLaws
