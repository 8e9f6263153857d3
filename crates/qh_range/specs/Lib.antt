-- The definitions that contracts cite: tickets and results, steps, and what an evaluation keeps of a part.
pub mod Results
pub mod Steps
pub mod Sides
pub mod Rooms
-- The definitions that contracts cite.
pub mod Totals
pub mod RunTotals
pub mod Solved
