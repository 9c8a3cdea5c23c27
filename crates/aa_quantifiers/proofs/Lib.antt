mod OneText
mod Standing
mod Adding
mod Best
mod Ordered
pub mod Growing
pub mod Closing
