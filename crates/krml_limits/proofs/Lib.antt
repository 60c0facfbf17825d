pub mod Above
pub mod Within
