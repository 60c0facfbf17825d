pub mod Unlabelled
pub mod Exact
pub mod Keys
pub mod Labels
pub mod Parts
pub mod Puts
pub mod Scope
pub mod Table
