pub mod Taken
pub mod Frame
pub mod CallUp
