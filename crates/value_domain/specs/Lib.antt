pub mod Meaning
pub mod Lengths
pub mod Words
pub mod Moved
