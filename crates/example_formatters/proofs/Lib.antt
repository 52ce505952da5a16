pub mod Back
pub mod EntryShows
pub mod ExpressionTokens
pub mod Lexed
pub mod Reading
pub mod Texts
