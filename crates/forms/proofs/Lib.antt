-- Laws of the moves.
pub mod FormIs
pub mod MoveSaid
pub mod MovedEntries
pub mod Nameless
pub mod PutOut
