-- Lemmas: the widths of the parts, gates and paths on a half, and the sums of a range.
pub mod RootLemmas
pub mod SideLemmas
pub mod ProductLemmas
pub mod PathLemmas
pub mod ValueLemmas
pub mod Examples
pub mod RunLemmas
mod SolveLemmas
mod TotalLemmas
