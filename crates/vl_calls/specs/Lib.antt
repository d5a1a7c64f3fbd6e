pub mod Called
pub mod Callers
pub mod Reaching
pub mod Seen
