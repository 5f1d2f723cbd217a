-- Laws that belong to no one function.
pub mod Lengths
pub mod Before
pub mod Carried
