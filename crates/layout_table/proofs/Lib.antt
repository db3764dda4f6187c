pub mod Judged
pub mod Upward
pub mod TableOf
pub mod SaidTable
pub mod GroundIn
pub mod Single
