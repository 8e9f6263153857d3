-- Lemmas that the crates above cite.
pub mod ReadingLemmas
pub mod PlaceLemmas
pub mod StepLemmas
pub mod PartLemmas
pub mod LayLemmas
pub mod WipeLemmas
pub mod GroupLemmas
-- Lemmas that several functions need.
pub mod HeadLemmas
