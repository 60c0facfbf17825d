mod Examples
pub mod Form
pub mod FormNames
pub mod Names
pub mod Runs
