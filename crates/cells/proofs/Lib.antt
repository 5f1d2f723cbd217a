-- Laws of an order of items, and of items served by cells.
pub mod Order
pub mod Cells
