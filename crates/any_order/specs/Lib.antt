-- The steps of a pass as 01 words them, and the claim of demand 3.
pub mod Steps
pub mod AnyOrder
pub mod Calls
