pub mod Like
pub mod Expressions
pub mod Twins
pub mod Fair
pub mod Rules
pub mod Files
