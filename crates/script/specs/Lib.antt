-- What the contracts cite.
pub mod Script
pub mod ByCharacter
pub mod Forms
