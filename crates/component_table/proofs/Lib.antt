mod Availability
mod Deriving
mod Keeping
mod KeptEvents
mod Mentions
mod Naming
pub mod RowCodes
mod Words
