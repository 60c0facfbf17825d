pub mod Bundled
pub mod Emitted
