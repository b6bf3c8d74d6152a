pub mod Signature
pub mod Step
pub mod Onward
pub mod Cache
pub mod Room
pub mod PartWalk
