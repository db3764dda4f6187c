-- Definitions between the functions of this crate.
pub mod Block
pub mod Spot
pub mod Clear
pub mod Set
