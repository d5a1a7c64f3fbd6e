pub mod Numerals
pub mod Spelled
