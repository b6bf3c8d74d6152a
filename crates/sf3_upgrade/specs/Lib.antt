pub mod Upgrading
pub mod Answers
pub mod FaultShown
