mod Laws
pub mod Lists
