pub mod Cases
mod Laws
