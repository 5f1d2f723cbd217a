-- The table of 01's examples.
pub mod Examples
