pub mod Numbers
mod Plans
mod Going
pub mod Ahead
mod Waiting
pub mod Level
mod Tests
mod Examples
