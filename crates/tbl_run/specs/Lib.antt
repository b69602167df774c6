pub mod Run
pub mod Outcome
pub mod Turns
pub mod Coming
pub mod Results
pub mod Laws
