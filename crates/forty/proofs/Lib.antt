pub mod Ring
pub mod Waits
pub mod Shifts
pub mod Rest
pub mod Counting
pub mod Forty
mod Examples
