pub mod Numbered
pub mod Parts
pub mod Bodies
pub mod Shown
pub use Rattle.session_model.specs.World
