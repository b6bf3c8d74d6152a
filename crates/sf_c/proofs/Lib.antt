pub mod Empty
pub mod Listed
pub mod Reached
pub mod Longest
pub mod Ordered
pub mod Apart
