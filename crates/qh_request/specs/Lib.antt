-- The definitions that the contract of the top call cites.
pub mod Inputs
pub mod Lines
pub mod Chosen
pub mod Jobs
pub mod Answer
pub mod Indexed
pub mod Refusals
pub mod Request
pub mod Outcomes
pub mod Parts
-- What a call tells of its sources and sinks, how it stops, and its messages.
pub mod Seen
pub mod Stops
