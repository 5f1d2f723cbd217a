-- Order of items by a number that each has.
pub mod Order
