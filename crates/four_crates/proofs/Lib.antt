-- Laws that belong to no one function.
pub mod Entries
pub mod Records
pub mod OneCrate
pub mod Rates
