pub mod Nights
