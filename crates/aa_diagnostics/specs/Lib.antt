pub mod Named
pub mod Earlier
pub mod Words
pub mod Sentences
pub mod Conflicts
pub mod Further
pub mod Limits
pub mod Reports
