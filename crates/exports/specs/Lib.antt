-- What the contracts cite.
pub mod Exports
pub mod CodeShape
