pub mod Lengths
pub mod DataWritten
pub mod FunctionsWritten
pub mod SectionWritten
pub mod StoredData
pub mod Listed
pub mod BytesWritten
pub mod TightOne
