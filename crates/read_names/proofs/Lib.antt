pub mod InputsChanged
pub mod GrownTexts
pub mod GivenNames
pub mod RemovedNames
pub mod FirstNames
