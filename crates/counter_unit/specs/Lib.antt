pub mod Counting
pub mod Laws
pub mod Modes
pub mod Selects
pub mod Units
pub use Rattle.papi_base.specs.Weight
pub use Rattle.papi_base.specs.Widths
