-- What is claimed of the exports together.
pub mod AllCross
pub mod Viewed
pub mod Cleaned
