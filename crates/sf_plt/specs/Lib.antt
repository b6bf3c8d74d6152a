pub mod Expression
pub mod Plt
pub mod Text
pub mod Written
pub mod Sorting
pub mod Linking
pub mod Answers
