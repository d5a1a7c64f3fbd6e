pub mod Dropped
pub mod Outcomes
pub mod Picked
pub mod Read
