pub mod Commands
pub mod Requests
pub mod Simple
pub mod Sizes
