pub mod Step
pub mod Walk
pub mod PartWalk
