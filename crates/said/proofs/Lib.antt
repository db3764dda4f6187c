pub mod Single
pub mod Answered
