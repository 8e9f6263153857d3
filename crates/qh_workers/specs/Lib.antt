-- The definitions that contracts cite: what a share counts, and what the answers of a desk say.
pub mod Shares
pub mod Claims
pub mod Admissions
pub mod Deliveries
pub mod Ends
