pub mod LimitsHeld
pub mod OverlapsSeen
pub mod StoredAlone
pub mod ByStart
