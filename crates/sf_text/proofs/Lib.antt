pub mod Numerals
pub mod Pieces
pub mod FrameLines
pub mod Appended
pub mod ShownNames
pub mod Dumped
pub mod PassedLines
