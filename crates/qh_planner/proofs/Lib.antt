-- Lemmas, which crates above may cite.
pub mod CountLemmas
pub mod PartLemmas
pub mod RefusalLemmas
pub mod TextLemmas
pub mod TableLemmas
pub mod ChoiceLemmas
