-- Lemmas of the reader.
mod ReadLemmas
mod AcceptLemmas
