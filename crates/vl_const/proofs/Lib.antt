pub mod BitLaws
pub mod DivisionLaws
pub mod FaultLaws
pub mod LogLaws
pub mod OperationLaws
pub mod PowerLaws
pub mod Rules
pub mod WorthLaws
