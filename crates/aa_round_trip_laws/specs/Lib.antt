pub mod Kinds
pub mod OwnLines
pub mod Again
pub mod Jobs
pub mod Printed
pub mod Made
