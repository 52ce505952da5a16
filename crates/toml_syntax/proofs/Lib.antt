mod Leading
mod ReadKeys
mod Alone
pub mod ReadAgain
pub mod ReadFormed
pub mod SettledFormed
pub mod Apart
pub mod SettledAgain
pub mod SameContent
mod Fits
pub mod Lexed
pub mod FormattedAgain
pub mod SameTexts
pub mod FormattedToml
mod SpelledKept
pub mod ReadKept
pub mod FormattedKept
