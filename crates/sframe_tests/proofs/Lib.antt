pub mod Worked
pub mod Writing
