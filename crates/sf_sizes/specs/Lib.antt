pub mod Width
pub mod RowLength
