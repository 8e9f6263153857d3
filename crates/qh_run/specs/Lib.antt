-- The definitions that contracts cite: how a run ends, and why, what its worker keeps, and what its parts do.
pub mod Ends
pub mod Workers
pub mod Carrying
pub mod Opened
pub mod Sweeping
