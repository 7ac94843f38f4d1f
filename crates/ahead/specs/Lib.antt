pub mod Ahead
pub mod Level
