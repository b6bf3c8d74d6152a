pub mod Alike
pub mod TableSame
pub mod FlexibleAlike
pub mod WorkedFlexible
