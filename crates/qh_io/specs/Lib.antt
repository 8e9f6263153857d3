pub mod Causes
pub mod Edge
pub mod Memory
pub mod Reading
-- What a call does to a sink, and what it says there.
pub mod Saying
