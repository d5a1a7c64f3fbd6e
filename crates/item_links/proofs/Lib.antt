pub mod SpanLaws
pub mod NotedLaws
pub mod ReadLaws
pub mod GraphLaws
pub mod OrderLaws
