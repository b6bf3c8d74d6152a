pub mod Each
pub mod Least
pub mod Texts
pub mod FirstZero
pub mod ReadSizes
pub mod Rules
mod LeastCompressed
mod Pieces
pub mod HeadersKept
mod LinkedSound
mod OnlyEhFrame
