pub mod Laws
pub mod OneByOne
