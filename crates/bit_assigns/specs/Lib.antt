pub mod Bits
pub mod Sides
pub mod Pieces
pub mod Laws
