pub mod Trees
pub mod Makers
