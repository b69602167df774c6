pub mod PushedTexts
pub mod InputAhead
