pub mod TableLaws
pub mod StepLaws
pub mod FrameLaws
pub mod TraceLaws
