pub mod Board
pub mod Moments
