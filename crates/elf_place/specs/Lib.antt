pub mod Cursor
pub mod Dropped
pub mod Place
pub mod Relocations
pub mod Views
pub mod FaultShown
