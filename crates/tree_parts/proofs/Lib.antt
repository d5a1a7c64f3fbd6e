pub mod OperandLaws
pub mod PartLaws
pub mod PushLaws
pub mod StatementLaws
pub mod AskLaws
pub mod FallLaws
