pub mod Entry
pub mod Attributes
pub mod Section
pub mod Rows
pub mod Stored
pub mod Tight
