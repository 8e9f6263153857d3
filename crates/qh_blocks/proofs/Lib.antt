-- Lemmas that the answers cite.
pub mod NumbersLemmas
pub mod PutLemmas
pub mod PartLemmas
pub mod ValueLemmas
pub mod WidthLemmas
pub mod PairLemmas
pub mod QuadLemmas
pub mod FitLemmas
pub mod FactorLemmas
mod LaneLemmas
mod RowLemmas
mod GroundLemmas
pub mod ScanLemmas
