pub mod OperatorRows
pub mod WorkedRows
pub mod TreeRows
pub mod RootOnly
pub mod EdgeRows
