-- The definitions that contracts cite: rows, where numbers come from, and places in a vector.
pub mod Rows
pub mod Places
pub mod Sources
-- The definitions that contracts cite: the lanes of a vector.
pub mod Lanes
