-- Lemmas on how a merge ends.
pub mod EndLemmas
-- Lemmas that several functions need.
pub mod ReadLemmas
pub mod ListLemmas
pub mod UnionLemmas
pub mod BoundLemmas
pub mod LawLemmas
pub mod SlotLemmas
pub mod OneLemmas
pub mod PlaceLemmas
pub mod MergeLemmas
pub mod CompareLemmas
pub mod UnionEndLemmas
pub mod TakeLemmas
pub mod GatherLemmas
pub mod ExactLemmas
pub mod AddingLemmas
