pub mod Format
pub mod Reader
pub mod Damage
