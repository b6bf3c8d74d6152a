pub mod Growing
pub mod Behind
pub mod Spelling
pub mod WordLaws
pub mod ReadingOn
