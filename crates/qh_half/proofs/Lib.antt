-- Lemmas that the answers cite.
mod FormLemmas
mod RootLemmas
pub mod RunsLemmas
mod TakenLemmas
