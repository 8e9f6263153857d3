-- Lemmas: how the run of a job gives its sums or stops, and the numbers of a state.
pub mod Chosen
pub mod Sums
pub mod Values
