pub mod Playing
pub mod Walk
pub mod Lines
