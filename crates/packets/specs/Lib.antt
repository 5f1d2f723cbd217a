-- What the contracts cite.
pub mod Packets
