pub mod Classes
pub mod JsonLanguage
pub mod Gaps
mod Ended
pub mod Words
pub mod Inline
pub mod Strings
pub mod Following
pub mod Sound
pub mod Reading
mod Places
mod Runs
mod Lanes
pub mod Firsts
pub mod NotEmpty
pub mod SpacedLexemes
mod NextSpaced
pub mod LineEnds
