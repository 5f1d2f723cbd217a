-- Laws that belong to no one function.
pub mod Refusing
pub mod Packets
pub mod AfterOne
pub mod Clock
pub mod Triggers
pub mod Static
