pub mod Pour
pub mod Poured
