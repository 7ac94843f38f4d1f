mod Steps
mod Bytes
pub mod Same
