pub mod PassedPointer
pub mod Widths
