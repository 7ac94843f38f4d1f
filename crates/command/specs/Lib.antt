pub mod Layout
pub mod Layouts
