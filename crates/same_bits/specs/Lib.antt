pub mod OnePlace
pub mod SameBits
