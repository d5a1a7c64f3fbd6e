pub mod PartLaws
pub mod ReadLaws
pub mod WalkLaws
pub mod SolverLaws
