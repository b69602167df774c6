pub mod RegisterTables
pub mod Heights
pub mod LoneDigits
pub mod NumbersKept
pub mod PageSteps
pub mod TitleFronts
pub mod TitlesKept
