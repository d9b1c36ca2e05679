pub mod CallLemmas
pub mod Examples
pub mod LineCuts
pub mod Reading
pub mod ShortLines
pub mod ShortNumbers
pub mod Splits
