pub mod Words
pub mod Faults
pub mod Forms
pub mod Lines
pub mod Reports
