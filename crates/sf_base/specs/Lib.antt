pub mod Seen
pub mod Known
pub mod Faults
pub mod Contents
pub mod Written
pub mod Word
pub mod Reading
