pub mod TableRead
pub mod DataRead
pub mod FieldsTaken
pub mod TableData
pub mod LineTaken
pub mod OpenBlocks
