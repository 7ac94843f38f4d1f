mod Ring
pub mod Waiting
mod Account
mod Exact
mod Sending
mod Hearing
pub mod Faults
pub mod Frames
mod Forwards
mod Plans
pub mod Steps
pub mod Order
pub mod Asked
pub mod Closed
mod Behind
mod HostWords
pub mod Framed
pub mod Tests
pub mod Examples
