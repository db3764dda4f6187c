pub mod Limited
pub mod VectorMade
pub mod MatrixMade
pub mod AtomicMade
pub mod ArrayMade
pub mod RuntimeMade
pub mod OverMade
