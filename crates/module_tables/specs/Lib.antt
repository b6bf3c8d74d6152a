pub mod Signals
pub mod Table
pub mod Numbered
pub mod Rules
