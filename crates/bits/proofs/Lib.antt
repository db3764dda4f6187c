pub mod PatternOf
pub mod FieldAt
