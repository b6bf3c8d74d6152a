pub mod Numbers
pub mod Marks
pub mod Values
pub mod Cursor
pub mod WithTarget
pub mod InMemory
pub mod PlaceChecks
mod EhFrames
mod Groups
