-- Lemmas on names, words and printed circuits, which other crates may cite, and those of the reader.
pub mod KindLemmas
pub mod WordsLemmas
pub mod ReadBackLemmas
mod NumberLemmas
mod GateLineLemmas
mod ReadingLemmas
mod LatestLemmas
mod OrderLemmas
mod SpellingLemmas
