pub mod Excess
pub mod Uncounted
pub mod Within
