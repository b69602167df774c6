pub mod EnvironmentRing
pub mod GivenPages
pub mod TitleTexts
pub mod ToldBytes
pub mod OddPages
pub mod InForce
pub mod BlanksTold
