mod Names
mod Tables
pub mod Lookups
mod Lines
mod Ordered
mod PartWalks
