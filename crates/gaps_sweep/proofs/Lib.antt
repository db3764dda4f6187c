pub mod Sweep
pub mod Differing
pub mod Cleaned
