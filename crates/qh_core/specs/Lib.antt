pub mod Law
pub mod Machine
pub mod Course
pub mod Noted
pub mod Replay
