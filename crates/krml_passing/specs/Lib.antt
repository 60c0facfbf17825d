pub mod Alike
pub mod Hoisted
pub mod Images
pub mod Laws
pub mod Naming
pub mod RunsAs
