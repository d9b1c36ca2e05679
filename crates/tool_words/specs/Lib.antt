pub mod Arguments
pub mod Words
pub mod Numbers
pub mod Presets
pub mod Streams
pub mod ScriptForm
pub mod EventList
-- tools/make_tools: begin forms
pub mod RunForm
pub mod ProfilForm
pub mod RegionsForm
pub mod AvailForm
pub mod NativeAvailForm
pub mod ChooserForm
pub mod DecodeForm
pub mod EncodeForm
pub mod SoakForm
-- tools/make_tools: end forms
pub mod Form
