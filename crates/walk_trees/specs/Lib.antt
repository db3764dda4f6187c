pub mod Slot
pub mod Tree
