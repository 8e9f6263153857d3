-- The definitions that contracts cite: causes, how fast numbers grow, rows of one entry, and how far an evolution has come.
pub mod Faults
pub mod Bounds
pub mod Rows
pub mod Progress
