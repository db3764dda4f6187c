-- Views and sets by what the code finds: an entry that is allowed, what a buffer holds of it, its target, a scalar stored there.
pub mod HeldOf
pub mod Begins
pub mod TargetCall
pub mod InBuffer
pub mod SetTarget
pub mod IntegerOf
pub mod PartLength
