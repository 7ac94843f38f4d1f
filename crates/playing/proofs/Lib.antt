mod Laws
mod Walks
mod Printed
mod Counting
mod Told
mod Groups
pub mod Parts
