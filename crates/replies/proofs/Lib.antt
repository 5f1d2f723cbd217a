-- Laws that belong to no one function.
pub mod Same
pub mod Zero
pub mod Counts
pub mod Laws
pub mod Conditions
pub mod Sent
