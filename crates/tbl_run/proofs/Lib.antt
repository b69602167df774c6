pub mod Turning
pub mod Fronts
pub mod MessageLimit
pub mod Given
pub mod Endings
pub mod Outcomes
