pub mod Pointer
pub mod Skipping
