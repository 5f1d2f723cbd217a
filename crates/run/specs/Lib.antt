-- What the contracts cite.
pub mod Run
pub mod Invariant
