pub mod Link
pub mod Theorems
mod Examples
mod Fits
