pub mod Modules
pub mod Texts
pub mod Views
pub mod Walked
