-- The definitions that contracts cite: parts, path numbers, jobs, plans, texts, and the total of verdicts.
pub mod Parts
pub mod Paths
pub mod Jobs
pub mod Verdicts
pub mod Texts
pub mod Plans
pub mod Ranges
pub mod Items
-- What a cut circuit means: what is asked, what each path gives, and what a run answers.
pub mod PathValues
pub mod Halves
pub mod Asked
pub mod MeaningLimits
pub mod Values
pub mod Traces
pub mod Laws
pub mod Slots
