-- Definitions between the functions of this crate.
pub mod Strays
