-- Shifts and rests of numbers that are rounded.
pub mod Shifts
pub mod Scaled
