-- What the contracts cite.
pub mod Series
