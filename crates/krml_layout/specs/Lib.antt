pub mod Bounds
pub mod Found
pub mod Layout
pub mod Ordered
