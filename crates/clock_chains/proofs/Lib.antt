pub mod ChainLaws
pub mod ListLaws
