pub mod Acts
pub mod Heads
pub mod Writes
