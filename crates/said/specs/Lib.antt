-- What the answers of calls say, in the words of crates/wgsl.
pub mod Refusal
pub mod Answer
pub mod Target
