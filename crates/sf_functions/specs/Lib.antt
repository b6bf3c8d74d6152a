pub mod Order
pub mod Neighbours
pub mod Limits
pub mod WithRows
