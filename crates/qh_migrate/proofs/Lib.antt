-- Lemmas that the crates above cite.
pub mod LaidLemmas
pub mod MoveLemmas
pub mod ResultLemmas
pub mod OptionLemmas
pub mod EmptyLemmas
pub mod MomentLemmas
pub mod SameLemmas
pub mod FillLemmas
pub mod FaultLemmas
pub mod FreshLemmas
pub mod HandLemmas
pub mod RunLemmas
pub mod AnswerLemmas
