pub mod Disk
pub mod Event
pub mod File
pub mod History
pub mod Inside
pub mod Looks
pub mod Moments
pub mod Plan
