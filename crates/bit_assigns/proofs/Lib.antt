mod Rules
pub mod SideLaws
pub mod ListLaws
pub mod ValueLaws
pub mod FitLaws
pub mod MeanLaws
pub mod ReadLaws
