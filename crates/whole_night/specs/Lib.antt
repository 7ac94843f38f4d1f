pub mod Night
pub mod Numbered
pub mod Outcomes
