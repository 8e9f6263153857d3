-- Lemmas that the answers cite.
mod BlocksLemmas
pub mod FactorLemmas
mod StoredLemmas
mod TilesLemmas
mod WidenLemmas
mod WithinLemmas
