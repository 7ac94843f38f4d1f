pub mod Registers
pub mod Raising
pub mod Writing
pub mod Spictrl
