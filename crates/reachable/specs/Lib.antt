-- What the theorems say.
pub mod Calls
pub mod Reachable
pub mod Numbering
pub mod Stays
pub mod Between
pub mod BetweenCalls
pub mod Fresh
pub mod FirstFrame
pub mod Why
