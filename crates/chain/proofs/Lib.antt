mod Laws
pub mod Waits
