-- What the contracts cite.
pub mod List
