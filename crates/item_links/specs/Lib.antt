pub mod Numbered
pub mod Noted
pub mod Graphs
pub mod Owned
pub mod Orders
