pub mod Cut
pub mod Faults
pub mod Levels
pub mod Nest
pub mod Reading
pub mod Scan
pub mod Text
pub mod Writing
