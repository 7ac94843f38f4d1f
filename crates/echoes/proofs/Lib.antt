pub mod Hearing
pub mod Paths
pub mod Counts
pub mod Halves
pub mod Ticks
pub mod Settling
pub mod Calling
