pub mod OptionsOf
pub mod OfferedOptions
pub mod HeldOptions
pub mod TimedOptions
