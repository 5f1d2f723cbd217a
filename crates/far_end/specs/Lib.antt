-- What the contracts cite.
pub mod FarEnd
pub mod CodeShape
