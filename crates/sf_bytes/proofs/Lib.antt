pub mod Answers
pub mod Fields
pub mod Inside
pub mod Lebs
pub mod Run
pub mod ShortLeb
pub mod Skipped
pub mod Texts
