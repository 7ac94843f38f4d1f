pub mod Orders
pub mod Frames
pub mod Answers
