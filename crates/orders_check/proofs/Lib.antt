pub mod Once
pub mod LaidEnd
pub mod LastMember
pub mod Reordered
pub mod Entries
pub mod Walked
