mod Cases
mod Words
mod Runs
pub mod Laws
