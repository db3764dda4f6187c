pub mod ReadOff
pub mod Laws
