-- What the contracts and the theorems cite.
pub mod Explaining
pub mod TrueReason
pub mod CodeShape
