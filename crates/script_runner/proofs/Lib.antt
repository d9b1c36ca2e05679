pub mod Pieces
pub mod PlannedLines
pub mod Words
mod ShownLines
