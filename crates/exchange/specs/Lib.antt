-- What the contracts cite.
pub mod Orders
pub mod Exchange
pub mod CodeShape
