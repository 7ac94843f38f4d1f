pub mod Accepted
pub mod Premises
pub mod Exactly
pub mod Demand
pub mod Framed
