pub mod Matched
pub mod Replied
pub mod Filing
pub mod Adding
pub mod Making
pub mod Standing
mod Reloading
mod Literal
mod Naming
mod Changing
pub mod Linking
mod Entering
mod BothSaid
mod BothStanding
mod ApartSaid
mod ApartStanding
mod BothChanging
