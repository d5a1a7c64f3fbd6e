pub mod OrderLaws
pub mod WordLaws
