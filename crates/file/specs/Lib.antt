pub mod Fields
pub mod Members
