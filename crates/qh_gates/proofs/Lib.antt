pub mod CircuitLemmas
pub mod KindLemmas
pub mod NameLemmas
pub mod TermLemmas
