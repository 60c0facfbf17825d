pub mod Bodies
pub mod Forms
pub mod LargeParts
pub mod SameLayouts
pub mod Turns
pub mod Walks
