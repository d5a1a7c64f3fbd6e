pub mod FreeNumbers
pub mod Parsed
pub mod Turns
