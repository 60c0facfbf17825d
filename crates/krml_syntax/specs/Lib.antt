pub mod File
pub mod Limits
pub mod Name
pub mod Number
pub mod Read
pub mod Shape
pub mod Spelling
pub mod Types
