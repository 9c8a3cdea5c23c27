pub use Rattle.aa_mediate.specs.Reply
pub mod Joined
pub mod Searches
pub mod Names
pub mod Undecided
pub mod Laws
