pub mod OverLemmas
pub mod FactLemmas
pub mod AnswerLemmas
