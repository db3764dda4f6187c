pub mod Left
pub mod Keyed
pub mod Planned
