pub mod Names
pub mod Outward
pub mod Tables
