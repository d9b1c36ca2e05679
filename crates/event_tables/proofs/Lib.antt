pub mod Items
pub mod Searches
pub mod Lowers
pub mod Bits
pub mod Growing
pub mod Indexing
pub mod RowsMore
pub mod Keeping
pub mod LinesKept
pub mod Reading
mod Examples
pub mod Words
