mod Decoding
mod Inverse
mod Turns
mod Coming
mod Collecting
mod Meeting
mod Found
mod Ending
mod Answering
mod Answered
mod Ruled
mod Refusals
mod Numbers
mod Silence
mod Examples
pub mod HostFrames
