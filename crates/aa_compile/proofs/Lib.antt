pub mod Gathers
pub mod Pickeds
pub mod Hits
pub mod Joins
mod SideLemmas
mod HitLemmas
mod Owned
mod DifferLemmas
pub mod MatchedTexts
pub mod ConflictLemmas
pub mod WayLemmas
mod Agreed
mod AttachLemmas
mod AttachedLemmas
mod Below
mod GroupLemmas
mod Counts
mod StateLemmas
mod CheckLemmas
pub mod Transitions
mod Bytes
pub mod HeldLemmas
