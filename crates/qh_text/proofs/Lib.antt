-- Lemmas that the crates above cite.
pub mod CutLemmas
pub mod BitLemmas
pub mod NumberLemmas
pub mod Digits
-- Lemmas on lines and words, which other crates may cite.
pub mod WordLemmas
pub mod LineLemmas
