pub mod RequestsObeyed
pub mod FewerNames
pub mod Placed
pub mod TitleTakings
pub mod DefinitionEnds
pub mod EndedDefinitions
