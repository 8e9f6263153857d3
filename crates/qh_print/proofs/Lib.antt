-- Lemmas; those on values are cited above.
mod LineLemmas
mod TextLemmas
mod Words
pub mod ValueLemmas
