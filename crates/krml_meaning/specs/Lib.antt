pub mod Endings
pub mod Meaning
pub mod Numbered
pub mod Shape
pub mod Sound
pub mod State
