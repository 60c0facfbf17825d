pub mod Again
pub mod Arms
pub mod Blocks
pub mod Cut
pub mod Examples
pub mod Forms
pub mod Many
pub mod Names
pub mod Parse
pub mod Spelled
pub mod Unique
mod WellFormedExamples
pub mod Written
