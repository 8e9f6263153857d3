pub mod CircuitLemmas
pub mod PairLemmas
pub mod LayerLemmas
pub mod StepLemmas
