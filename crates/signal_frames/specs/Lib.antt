pub mod Expression
pub mod Rules
pub mod Run
pub mod InitialRules
pub mod SignalFrame
pub mod Row
