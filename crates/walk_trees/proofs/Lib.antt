pub mod SlotAt
pub mod SlotIn
pub mod TreeOne
pub mod Many
pub mod Rows
pub mod Room
pub mod TreeSteps
