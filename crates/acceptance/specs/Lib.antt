-- What the contracts cite.
pub mod Acceptance
