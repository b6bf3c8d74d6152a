pub mod Mapped
pub mod Parts
pub mod Program
pub mod Read
pub mod Sframe
