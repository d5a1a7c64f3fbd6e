pub mod Formed
pub mod Apart
