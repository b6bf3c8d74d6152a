pub mod GoingOn
pub mod Few
pub mod Overlaps
pub mod First
pub mod Placing
pub mod Refusing
pub mod Patching
pub mod Inside
pub mod Checked
pub mod SortedFixes
pub mod Applying
mod Short
