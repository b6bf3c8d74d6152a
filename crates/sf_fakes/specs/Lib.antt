pub mod Pairs
pub mod Lent
pub mod Reading
pub mod Calls
