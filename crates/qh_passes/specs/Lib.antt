-- The definitions that contracts cite: turns, and what a run of them makes of numbers.
pub mod Turns
pub mod Passes
