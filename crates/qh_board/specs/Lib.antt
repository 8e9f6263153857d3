-- The board of a run, and what its calls promise.
pub mod Board
pub mod Claims
pub mod Deliveries
pub mod Groups
pub mod Picking
