-- What the contracts cite.
pub mod CodeShape
