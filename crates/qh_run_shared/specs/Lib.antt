-- What contracts cite stands in the crates below.
-- The definitions that contracts cite: what is named of a run, and what its board keeps under a lock.
pub mod Facts
