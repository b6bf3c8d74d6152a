pub mod Ranges
pub mod Sizes
