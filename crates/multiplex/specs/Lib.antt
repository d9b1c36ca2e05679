pub mod Groups
pub mod Laws
pub mod Rotations
pub mod Turns
pub use Rattle.counter_alloc.specs.Masks
