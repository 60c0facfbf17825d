pub mod Equations
pub mod Itself
