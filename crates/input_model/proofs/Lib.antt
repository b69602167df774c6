pub mod KeptTexts
pub mod KeptArguments
pub mod Settling
pub mod Counts
pub mod FewEvents
