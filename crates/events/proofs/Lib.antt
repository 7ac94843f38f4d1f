mod Laws
pub mod Turns
pub mod Ticks
pub mod Quiet
pub mod Keeps
pub mod Control
pub mod Discarded
