-- What the formatter does, as the definition has it.
pub mod Sprung
pub mod Performing
pub mod Paging
pub mod Setting
pub mod Telling
pub mod Titling
pub mod Unfilled
