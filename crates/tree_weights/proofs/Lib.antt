pub mod PartLaws
pub mod SplitLaws
pub mod SpendLaws
pub mod Rules
pub mod ItemLaws
