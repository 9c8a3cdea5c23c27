pub mod Files
pub mod Views
pub mod Sound
