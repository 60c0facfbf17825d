pub mod Counted
pub mod Wide
