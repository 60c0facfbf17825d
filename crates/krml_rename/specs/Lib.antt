pub mod Pass
pub mod Renaming
