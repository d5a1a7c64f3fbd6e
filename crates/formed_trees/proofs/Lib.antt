pub mod Built
pub mod Bodies
