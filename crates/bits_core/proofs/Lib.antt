pub mod CarryLaws
pub mod NumberLaws
pub mod OrderLaws
pub mod PlaceLaws
pub mod RippleLaws
pub mod ShiftLaws
