pub mod Ends
pub mod FreeNumbers
pub mod Gives
pub mod Nests
pub mod Parsed
