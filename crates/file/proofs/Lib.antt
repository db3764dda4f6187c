pub mod FieldsAt
pub mod CheckTrailer
