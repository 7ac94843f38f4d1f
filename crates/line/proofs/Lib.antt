mod Laws
pub mod Hears
pub mod Pieces
pub mod Trip
pub mod WhichWord
pub mod Examples
