-- The definitions that contracts cite.
pub mod Drawings
pub mod Grids
