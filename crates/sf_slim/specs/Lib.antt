pub mod Slim
pub mod Pass
pub mod Slimming
pub mod Answers
pub mod Shortest
pub mod FaultShown
