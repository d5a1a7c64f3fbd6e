pub mod App
pub mod Commands
pub mod Parts
pub mod Seen
pub mod Table
pub mod Usage
pub mod Values
pub mod Words
