-- Lemmas that the crates above cite.
pub mod RecordLemmas
pub mod CountLemmas
pub mod CarryLemmas
pub mod CompleteLemmas
pub mod KeptLemmas
pub mod SweepLemmas
