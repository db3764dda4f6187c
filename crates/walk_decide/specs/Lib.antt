pub mod Decide
pub mod Whole
pub mod Meant
