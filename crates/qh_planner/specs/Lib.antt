-- The definitions that contracts cite: cuts and their cost, the table, the choice, what the code counts, the spelling.
pub mod Cuts
pub mod Choice
pub mod Counts
pub mod Best
pub mod Spelling
