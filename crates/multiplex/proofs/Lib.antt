pub mod Ticks
pub mod Estimates
pub mod Grouping
pub mod Parts
pub mod Slices
pub mod Words
