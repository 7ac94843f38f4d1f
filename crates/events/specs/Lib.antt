pub mod Events
pub mod Turn
