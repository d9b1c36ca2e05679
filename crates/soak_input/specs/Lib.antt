pub mod Generator
pub mod Occurrences
pub mod Script
pub mod Source
pub mod SourceView
pub mod Streams
pub mod Summary
pub mod Unit
