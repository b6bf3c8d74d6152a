pub mod Signals
pub mod Process
pub mod Step
pub mod Outside
pub mod Masks
pub mod Walk
