pub mod Built
pub mod Calls
pub mod Formed
pub mod Nodes
pub mod Scopes
pub mod Steps
pub mod Whole
