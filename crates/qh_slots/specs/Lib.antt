-- The definitions that contracts cite: the two formats, what a file stands for, and why it is not attached.
pub mod Layout
pub mod Slots
pub mod Stands
pub mod Attaching
pub mod Laws
-- The definitions that contracts cite: the slots of a run, the moments of its disks, why a journal is refused, and what a run promises of them.
pub mod Record
pub mod Moments
pub mod Refusing
pub mod Keeps
-- The running total of a journal's slots.
pub mod Running
