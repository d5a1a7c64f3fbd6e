pub mod BoxLaws
pub mod KeptLaws
pub mod NamedLaws
