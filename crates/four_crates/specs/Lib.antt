-- What the contracts cite.
pub mod FourCrates
pub mod CodeShape
