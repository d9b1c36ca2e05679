pub mod Periods
pub mod Places
pub mod Kept
pub mod Bits
pub mod Counts
pub mod Tables
pub mod Steps
pub mod Words
