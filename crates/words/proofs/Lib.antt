pub mod ReadType
pub mod WriteType
