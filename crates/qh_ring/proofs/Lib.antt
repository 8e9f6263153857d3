-- Lemmas that the crates above cite.
pub mod NumberLemmas
pub mod SumLemmas
pub mod BitLemmas
pub mod StateLemmas
pub mod AgreeLemmas
pub mod PairLemmas
pub mod ListedLemmas
