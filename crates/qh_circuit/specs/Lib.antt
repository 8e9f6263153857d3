-- The definitions that contracts cite: what a circuit text means, and the one spelling that is printed.
pub mod GateLines
pub mod Reads
pub mod Faults
pub mod Order
pub mod Texts
pub mod Spelling
pub mod Answers
