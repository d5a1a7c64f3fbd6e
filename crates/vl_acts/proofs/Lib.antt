pub mod ActLaws
pub mod Rules
