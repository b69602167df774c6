pub mod ArgumentTexts
pub mod ArgumentList
pub mod Quoting
pub mod Calls
