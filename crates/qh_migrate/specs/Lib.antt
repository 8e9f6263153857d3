-- What a migration promises.
pub mod Faults
pub mod Moving
pub mod Laid
-- What the opening of a run's journal promises, and what may follow it.
pub mod Opening
pub mod Stops
