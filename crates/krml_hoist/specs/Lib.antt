pub mod Large
pub mod Refusing
pub mod Walk
