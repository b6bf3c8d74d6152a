pub mod Opcodes
pub mod Instruction
pub mod Table
pub mod Listing
pub mod Frequent
pub mod Remaining
pub mod Spelling
pub mod FaultShown
