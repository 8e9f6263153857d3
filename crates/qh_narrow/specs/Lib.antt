-- The definitions that contracts cite: columns of numbers, and the blocks that hold them.
pub mod Columns
pub mod Factor
