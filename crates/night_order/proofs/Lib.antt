pub mod Line
pub mod InOrder
pub mod After
mod Examples
