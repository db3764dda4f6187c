-- Laws of kinds, of numbers in a format and of abstract ints.
pub mod Parts
