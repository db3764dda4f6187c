-- What the moves say.
pub mod Entries
pub mod OfForm
