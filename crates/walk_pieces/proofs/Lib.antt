pub mod Added
pub mod Pass
