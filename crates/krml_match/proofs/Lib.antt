pub mod Counted
pub mod NoTests
pub mod Plain
pub mod Standing
pub mod Walk
