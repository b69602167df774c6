pub mod Environments
pub mod Composer
pub mod TitleText
