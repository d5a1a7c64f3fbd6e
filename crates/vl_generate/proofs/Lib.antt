pub mod ArmLaws
pub mod FirstLaws
pub mod Rules
pub mod TurnLaws
