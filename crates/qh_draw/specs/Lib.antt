-- The definitions that contracts cite: what they see of a seat, and the rule of a draw.
pub mod Seats
pub mod Rule
