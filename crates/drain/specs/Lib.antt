pub mod Drain
pub mod Cost
pub mod Steps
pub mod Hush
