-- Lemmas that several functions need.
pub mod SayingLemmas
