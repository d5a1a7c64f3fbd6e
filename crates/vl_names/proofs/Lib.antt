pub mod NameLaws
pub mod Turns
