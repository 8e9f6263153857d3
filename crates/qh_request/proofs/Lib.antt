-- Lemmas: what causes exclude and give, and the strings of a text.
pub mod Asked
pub mod Words
pub mod Strings
pub mod Causes
pub mod Inputs
pub mod Journals
pub mod Ends
pub mod Runs
pub mod Tables
mod Unique
pub mod FirstIndices
-- How what a sink was told adds up.
pub mod Saying
