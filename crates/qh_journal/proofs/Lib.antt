-- Lemmas that the crates above cite.
pub mod AttachLemmas
pub mod CreateLemmas
pub mod KeptLemmas
