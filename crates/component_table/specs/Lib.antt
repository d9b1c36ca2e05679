pub mod Books
pub mod Catalogs
pub mod EventNames
pub mod Codes
pub mod Laws
pub use Rattle.event_tables.specs.Tables
pub use Rattle.name_encoder.specs.Names
pub use Rattle.name_encoder.specs.Canonical
pub use Rattle.postfix_rules.specs.Fitting
pub use Rattle.postfix_rules.specs.NativeCodes
pub use Rattle.postfix_rules.specs.Presets
pub use Rattle.preset_csv.specs.Tables as PresetTables
pub use Rattle.preset_csv.specs.Symbols
pub use Rattle.user_events.specs.Events as Extended
