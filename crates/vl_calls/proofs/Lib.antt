pub mod ListLaws
pub mod ReachLaws
pub mod Rules
