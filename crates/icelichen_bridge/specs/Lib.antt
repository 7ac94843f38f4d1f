pub mod Calls
pub mod Run
