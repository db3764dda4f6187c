pub mod Fold
pub mod Run
pub mod Ask
