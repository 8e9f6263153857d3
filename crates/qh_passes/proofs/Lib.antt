-- Lemmas that the answers cite.
pub mod RunLemmas
pub mod StayLemmas
mod TileLemmas
