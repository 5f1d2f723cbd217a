-- What the contracts cite.
pub mod Characters
pub mod Texts
pub mod CodeShape
