pub mod Expressions
pub mod Running
pub mod Frames
pub mod Deciding
pub mod RowRules
