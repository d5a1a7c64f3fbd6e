pub mod State
pub mod Aims
pub mod Runs
pub mod Choices
pub mod Writes
