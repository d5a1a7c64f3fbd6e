pub mod Nets
pub mod Cycles
