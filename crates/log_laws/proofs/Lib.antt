pub mod StepLaws
pub mod LogLaws
pub mod RefusedLaws
pub mod JoinedLaws
