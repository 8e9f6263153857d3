-- Lemmas that the answers cite.
pub mod RowLemmas
pub mod PlaceLemmas
pub mod WriteLemmas
pub mod DoneLemmas
pub mod MoveLemmas
pub mod GroupLemmas
-- Lemmas that the answers cite, and those that the crates above cite.
pub mod BoundLemmas
mod WordLemmas
mod PickLemmas
mod MostLemmas
mod HalfLemmas
mod LargerLemmas
mod EvenLemmas
