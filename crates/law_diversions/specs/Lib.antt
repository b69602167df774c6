pub mod DivertedTexts
pub mod DiversionLaws
