pub mod Encoding
pub mod Tracks
pub mod Parts
