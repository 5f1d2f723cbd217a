-- What the contracts cite.
pub mod Configuration
