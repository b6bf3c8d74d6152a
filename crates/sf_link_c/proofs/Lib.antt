pub mod Listing
pub mod Answering
pub mod AnsweringPlt
pub mod Slimmed
pub mod Verified
pub mod Merged
pub mod Tables
pub mod Placed
