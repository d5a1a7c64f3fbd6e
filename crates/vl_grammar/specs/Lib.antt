pub mod Longest
pub mod Read
pub mod Roles
pub mod Spells
