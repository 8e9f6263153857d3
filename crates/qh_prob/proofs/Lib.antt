-- Lemmas, which crates above may cite.
pub mod RingLemmas
pub mod SpreadLemmas
pub mod GramLemmas
pub mod UnitaryLemmas
pub mod TotalLemmas
pub mod FormLemmas
pub mod LineLemmas
pub mod TextLemmas
