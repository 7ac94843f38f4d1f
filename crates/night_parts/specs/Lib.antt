pub mod Parts
pub mod Hush
pub mod Place
pub mod Moving
