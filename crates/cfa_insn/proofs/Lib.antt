pub mod ReadsMoveOn
pub mod Listings
pub mod MoreBytes
pub mod Spelled
pub mod Faults
pub mod Listed
pub mod Frequent
