-- The definitions that contracts cite.
pub mod Output
pub mod Words
