pub mod OperatorLaws
pub mod RowTools
pub mod RowCases
pub mod TreeCases
pub mod EdgeCases
