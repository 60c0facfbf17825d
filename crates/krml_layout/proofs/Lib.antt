mod Examples
pub mod Frames
pub mod InOrder
pub mod Left
pub mod Lookups
pub mod Maps
pub mod Members
pub mod OneProof
pub mod Same
pub mod Sizes
pub mod Split
