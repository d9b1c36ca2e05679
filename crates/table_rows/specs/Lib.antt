pub mod Texts
pub mod Rows
pub mod Reader
pub mod Tables
pub use Rattle.csv.specs.Records
pub use Rattle.papi_base.specs.Numerals
