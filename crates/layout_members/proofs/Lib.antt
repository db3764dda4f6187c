pub mod Flags
pub mod GivenFits
