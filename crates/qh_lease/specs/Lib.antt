pub mod Lease
pub mod Marks
pub mod Register
pub mod Tally
pub mod TimerState
