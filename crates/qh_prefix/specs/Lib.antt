-- The definitions that contracts cite: what a checkpoint holds, a part before its first gate, and a cache of checkpoints.
pub mod Checkpoints
pub mod Starts
pub mod Caches
-- The definitions that contracts cite: a part's qubits, a circuit's gates in it, a path's stages, and what gates do to a half.
pub mod Parts
pub mod Places
pub mod Runs
pub mod Stages
