-- The definitions that contracts cite: a half state, and what a matrix makes of it.
pub mod Halves
pub mod Wide
pub mod Forms
