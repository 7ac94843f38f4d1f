pub mod Traces
pub mod Ends
pub mod Forty
