-- Lemmas that the crates above cite.
pub mod SlotLemmas
pub mod SpellingLemmas
pub mod ReadLemmas
pub mod ByteLemmas
pub mod StandLemmas
pub mod PlaceLemmas
pub mod OwnerLemmas
pub mod StillLemmas
pub mod RunningLemmas
pub mod FirstLemmas
