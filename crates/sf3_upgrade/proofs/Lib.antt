pub mod Overlaps
pub mod Written
pub mod SomeUpgraded
