pub mod SectionContent
pub mod Agreement
pub mod Verifying
pub mod Comparing
pub mod Asking
pub mod Counting
pub mod Concluding
pub mod FaultShown
