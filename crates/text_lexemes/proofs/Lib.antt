pub mod Placed
pub mod Cuts
pub mod WellSpaced
pub mod JoinedTexts
pub mod Places
pub mod Firsts
