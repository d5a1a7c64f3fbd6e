pub mod BlockLaws
pub mod ListLaws
pub mod Rules
