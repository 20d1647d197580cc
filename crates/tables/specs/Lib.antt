pub mod Tables
pub mod TableLaws
pub mod Periods
pub mod Outcomes
pub mod OutcomeLaws
pub mod EndingLaws
pub mod HeldTables
pub mod KeptRowLaws
