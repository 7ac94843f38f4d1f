pub mod Lull
