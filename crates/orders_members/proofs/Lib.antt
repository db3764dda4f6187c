pub mod KeyOf
pub mod StructOf
