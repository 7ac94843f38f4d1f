pub mod Next
pub mod Room
