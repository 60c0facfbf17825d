pub mod Alike
pub mod Kept
pub mod Limits
pub mod Parts
pub mod Respelled
pub mod WordBytes
