pub mod Messages
pub mod Options
pub mod OptionWords
pub mod Notes
