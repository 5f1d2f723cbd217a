-- The theorem of the table of examples.
pub mod Examples
