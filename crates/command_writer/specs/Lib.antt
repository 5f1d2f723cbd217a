-- What the contracts cite.
pub mod Writing
pub mod CanGive
