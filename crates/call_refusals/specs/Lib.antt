-- What the contracts cite.
pub mod CallRefusals
