pub mod AllWords
pub mod Codes
pub mod Names
pub mod Order
pub mod Outcomes
pub mod Words
