mod Laws
mod Hushed
pub mod Ticks
pub mod Sum
pub mod Steps
pub mod Examples
