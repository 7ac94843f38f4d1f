mod Xor
pub mod Linear
mod Steps
pub mod Laws
pub mod Pieces
mod Nibbles
pub mod Bytes
mod Examples
