-- Laws that belong to no one function.
pub mod Asking
pub mod Fields
pub mod Changing
pub mod Explaining
pub mod Letters
pub mod Lines
