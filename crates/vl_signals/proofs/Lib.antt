pub mod NumberLaws
pub mod SiteLaws
pub mod Turns
