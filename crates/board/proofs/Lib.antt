-- Laws that belong to no one function.
pub mod Obeying
pub mod Serving
pub mod RatePass
pub mod Sending
pub mod Tables
pub mod Answers
pub mod NothingLost
