pub mod Numbers
pub mod Variants
