pub mod Drawing
pub mod Pieces
pub mod Sums
pub mod Words
