-- What the theorems say.
pub mod Commands
pub mod Blocks
