-- What the runs of calls promise of which the functions of a journal are made.
pub mod Reading
pub mod Sparing
pub mod Laying
pub mod Groups
-- The job that a file names, and why it names none.
pub mod Naming
