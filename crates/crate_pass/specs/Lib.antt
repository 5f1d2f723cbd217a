-- What the contracts cite.
pub mod Crate
pub mod CodeShape
pub mod Invariant
