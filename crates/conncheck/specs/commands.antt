pub mod Check
pub mod Lrat
