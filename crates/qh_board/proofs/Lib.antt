pub mod BoardLemmas
pub mod GroupLemmas
pub mod StartLemmas
pub mod DeliverLemmas
pub mod DiskLemmas
pub mod PickLemmas
pub mod LateLemmas
