-- Laws that belong to no one function.
pub mod SameRow
pub mod Saying
pub mod Rows
pub mod AllowedNumbers
pub mod Answers
pub mod FirstWords
pub mod WordsAtFault
pub mod BlockWords
pub mod MissingWords
pub mod TrueReason
pub mod Injective
