pub mod RangeLaws
pub mod SpanLaws
pub mod ReadLaws
pub mod AddLaws
pub mod DriveLaws
mod ItemLaws
mod SureLaws
