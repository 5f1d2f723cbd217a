-- What the contracts cite, in the order of 01.
pub mod State
pub mod Commands
pub mod Explaining
pub mod SlowControl
pub mod RatePass
pub mod SentOut
