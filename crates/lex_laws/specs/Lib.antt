pub mod Attributes
pub mod Branches
pub mod Parts
