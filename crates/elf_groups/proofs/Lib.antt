pub mod WholeBlocks
pub mod NumberedText
pub mod Signatures
pub mod Runs
pub mod Listed
pub mod Dropped
mod Rising
