pub mod Meaning
pub mod Parts
pub mod Shape
pub mod Spelling
pub mod Text
pub mod Tokens
pub mod WellFormed
