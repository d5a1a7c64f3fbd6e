pub mod LengthLaws
pub mod LoopLaws
pub mod PlaceLaws
pub mod KeepLaws
pub mod WordLaws
pub mod MoveLaws
pub mod NearLaws
