pub mod ScanLaws
pub mod NameLaws
pub mod ReadLaws
pub mod WireLaws
pub mod TableLaws
