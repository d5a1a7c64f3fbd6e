pub mod Setups
pub mod Tables
pub mod Steps
