-- Laws of members that are named, and of their marks.
pub mod Named
pub mod InWords
