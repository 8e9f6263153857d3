-- How a run ends for the call, and the files that words name.
pub mod Parts
pub mod Names
