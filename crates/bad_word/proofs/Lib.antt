mod Events
pub mod BadWord
mod Examples
