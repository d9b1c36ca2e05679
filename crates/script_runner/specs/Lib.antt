pub mod Pieces
pub mod Replies
pub mod Resolving
pub use Rattle.component_table.specs.Catalogs
pub use Rattle.component_table.specs.Codes
pub use Rattle.thread_registry.specs.Plans
pub use Rattle.thread_registry.specs.Runs
pub use Rattle.tool_output.specs.Replies as ReplyTexts
pub use Rattle.script_lines.specs.Scripts
pub use Rattle.session_model.specs.World
