-- What is built, under the names of C, among the definitions of a file, and as the code walks over it.
pub mod Bundled
pub mod Hoisted
pub mod Pieces
pub mod Unbuilt
