pub mod Attached
pub mod Limits
pub mod Numbers
pub mod Only
pub mod Shape
pub mod Types
