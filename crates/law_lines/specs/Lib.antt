pub mod NearestStop
pub mod Filling
pub mod FirstLineOf
pub mod Interruptions
pub mod Written
pub mod FieldLaws
pub mod LawWords
