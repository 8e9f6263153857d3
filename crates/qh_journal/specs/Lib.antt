-- What the calls of a journal promise.
pub mod Calls
