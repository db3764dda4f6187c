pub mod Step
pub mod Way
