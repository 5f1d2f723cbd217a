-- What the contracts cite.
pub mod Responses
pub mod CodeShape
