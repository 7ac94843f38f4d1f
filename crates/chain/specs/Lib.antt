pub mod Echo
pub mod Chain
pub mod Waits
