-- Demand 2: reading what was written gives it back.
pub mod Fields
pub mod AnyBlock
pub mod Commands
pub mod Blocks
pub mod Packets
