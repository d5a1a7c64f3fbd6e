pub mod LvalLaws
pub mod Rules
pub mod Walks
