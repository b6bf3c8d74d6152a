pub mod NamedWords
pub mod Loads
pub mod Limits
pub mod ItemLists
pub mod WholeFiles
pub mod LoadedAgain
