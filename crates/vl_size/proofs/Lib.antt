pub mod ChainLaws
pub mod ConstantLaws
pub mod FaultLaws
pub mod GapLaws
pub mod Rules
pub mod SharingLaws
pub mod TermLaws
pub mod PlacingLaws
