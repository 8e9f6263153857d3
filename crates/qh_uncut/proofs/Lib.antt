-- Lemmas on whole states, which crates above may cite.
pub mod EvolutionLemmas
pub mod BoundLemmas
pub mod EntryLemmas
pub mod StateLemmas
