-- Laws that belong to no one function, and that a line read a character at a time is the whole line.
pub mod Characters
pub mod WholeLine
