pub mod Laws
pub mod Signals
pub mod Sites
pub mod Sought
