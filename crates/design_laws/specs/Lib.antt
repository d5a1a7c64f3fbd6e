pub mod Laws
pub mod Coverage
pub mod Kinds
pub mod Trees
pub mod Prints
