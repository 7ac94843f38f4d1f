mod Raised
mod Sixteen
pub mod Laws
mod Arms
mod Examples
