pub mod Written
pub mod Laws
