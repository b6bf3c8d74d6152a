pub mod Lookups
pub mod Left
