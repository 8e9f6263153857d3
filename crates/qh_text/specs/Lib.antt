-- The definitions that contracts cite.
pub mod Bitstrings
pub mod Words
pub mod Decimal
-- The definitions that contracts cite: lines of a text, words of a line.
pub mod Lines
pub mod LineWords
