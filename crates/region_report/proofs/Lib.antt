pub mod Counted
pub mod Flags
pub mod LineRead
pub mod Pieces
pub mod ScriptRead
pub mod Stacks
pub mod TotalsKept
pub mod Words
