-- Lemmas on strings and texts.
pub mod ReadOn
pub mod StringLemmas
pub mod SpellingLemmas
