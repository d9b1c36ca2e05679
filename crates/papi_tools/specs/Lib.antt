-- tools/make_tools: begin verdicts
pub mod Choosing
pub mod Decoding
pub mod Encoding
pub mod NativeListing
pub mod PresetListing
pub mod Profiling
pub mod RegionCounts
pub mod Run
pub mod Soaking
-- tools/make_tools: end verdicts
pub mod Carried
pub mod Causes
pub mod Contents
pub mod ErrorLines
pub mod Looking
pub mod Marks
pub mod Openings
pub mod OwnReplies
pub mod Outputs
pub mod RegionTotals
pub mod Running
pub mod Saying
pub mod Status
pub mod Streams
pub mod Texts
pub mod Verdict
