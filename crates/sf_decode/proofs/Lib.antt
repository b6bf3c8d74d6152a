pub mod Checked
pub mod EntriesFound
pub mod EntriesRead
pub mod Joined
pub mod Loops
mod EntryChecked
pub mod RowsFound
pub mod RowsRead
pub mod Standing
pub mod Starts
pub mod Holds
