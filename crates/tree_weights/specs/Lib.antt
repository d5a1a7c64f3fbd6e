pub mod Rounds
pub mod Spent
pub mod Spines
