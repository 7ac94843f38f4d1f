pub mod Single
mod Hushed
mod Hosts
mod Moves
