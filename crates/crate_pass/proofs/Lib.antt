-- Laws that belong to no one function.
pub mod Next
pub mod Cleared
pub mod BoardRates
pub mod Answered
pub mod Serving
pub mod After
pub mod Entries
pub mod Invariant
pub mod Tables
