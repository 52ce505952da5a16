pub mod Places
pub mod Languages
pub mod SpacedTexts
pub mod FirstLexemes
pub mod LexemeLaws
pub mod Rows
