pub mod Rings
pub mod Queue
pub mod Notes
pub mod Sending
pub mod Frame
pub mod Facts
pub mod Power
