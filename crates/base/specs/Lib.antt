pub mod Pick
pub mod Truth
pub mod Bits
pub mod Table
pub mod Unique
pub mod Arms
