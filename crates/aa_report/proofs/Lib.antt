pub mod Fences
