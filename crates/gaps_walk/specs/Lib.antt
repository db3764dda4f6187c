pub mod SweptOver
pub mod Laws
