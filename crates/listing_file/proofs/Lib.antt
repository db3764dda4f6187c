pub mod ListingLength
pub mod ListingOf
