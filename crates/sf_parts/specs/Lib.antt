pub mod Image
pub mod Read
