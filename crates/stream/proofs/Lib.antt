-- Laws that belong to no one function, and that silent boards end every pass.
pub mod RunOut
pub mod Answers
pub mod Input
