pub mod Number
pub mod Pattern
pub mod Instruction
pub mod Frames
pub mod Object
