-- What the contracts cite.
pub mod Stream
