-- The definitions that contracts cite: blocks of numbers, the list that they hold, how far a matrix can widen numbers, and common factors.
pub mod Blocks
pub mod Factors
pub mod Numbers
pub mod Widths
