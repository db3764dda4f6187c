pub mod Store
pub mod Limited
pub mod OneBit
pub mod Mask
