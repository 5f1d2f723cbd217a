-- Laws that belong to no one function.
pub mod Xor
pub mod Linear
pub mod Starts
pub mod Below
pub mod Steps
