pub mod CallUp
pub mod Taken
