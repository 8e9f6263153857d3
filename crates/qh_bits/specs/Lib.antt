-- The definitions that contracts cite.
pub mod Strings
pub mod Texts
