mod Agreeing
mod Holding
mod SameWays
pub mod Shared
