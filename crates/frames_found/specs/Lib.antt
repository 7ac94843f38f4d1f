pub mod Frames
pub mod Moments
pub mod Found
pub mod Answered
pub mod Silence
pub mod HostFrames
