pub mod SlotsKeep
pub mod StartKeeps
pub mod KeepsBy
