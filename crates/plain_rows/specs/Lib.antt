pub mod Verdicts
pub mod Plain
pub mod Seen
pub mod Laws
