pub mod Accept
pub mod Ends
pub mod Refusal
pub mod Steps
pub mod Theorem
pub mod Unbuilt
