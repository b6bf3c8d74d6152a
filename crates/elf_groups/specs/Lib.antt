pub mod Groups
pub mod StringEnds
pub mod TextNumbers
pub mod SeenSignatures
pub mod Dropped
