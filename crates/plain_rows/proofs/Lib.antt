pub mod CellLaws
pub mod EndLaws
pub mod LeafLaws
pub mod RowLaws
pub mod SoundLaws
pub mod AssignLaws
pub mod OneVerdict
