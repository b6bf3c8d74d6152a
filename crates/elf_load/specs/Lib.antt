pub mod Segments
pub mod BuildId
pub mod Loading
