mod Bytes
mod Turns
mod CommentTurns
pub mod Gaps
pub mod Kept
pub mod Following
pub mod Joined
pub mod Words
pub mod Trimmed
pub mod LineEnds
pub mod Strings
pub mod CommentGaps
pub mod WholeLexemes
pub mod TextsApart
pub mod ReadItems
pub mod SoundTexts
pub mod Stages
pub mod Divided
pub mod Said
