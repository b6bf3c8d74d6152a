pub mod Described
pub mod Section
pub mod Lookup
pub mod Flexible
