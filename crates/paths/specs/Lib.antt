pub mod Locate
pub mod View
pub mod Set
pub mod Field
