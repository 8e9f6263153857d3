-- Lemmas: the digits of a prefix value, the halves of a checkpoint, and the list of a cache.
pub mod DigitLemmas
pub mod HalfLemmas
pub mod CacheLemmas
-- Lemmas: the widths of the parts, indices within a part, placed gates, stages, and what placed gates do to a half.
pub mod WidthLemmas
pub mod IndexLemmas
pub mod FactorLemmas
pub mod PlaceLemmas
pub mod StageLemmas
pub mod RunLemmas
