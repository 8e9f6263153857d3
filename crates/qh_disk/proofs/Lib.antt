mod Events
pub mod Looking
pub mod Moments
mod Pending
mod Replay
pub mod Rules
