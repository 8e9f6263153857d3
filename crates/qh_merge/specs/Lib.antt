-- What the program that merges journals promises.
pub mod Ends
-- What a merge promises.
pub mod Inputs
pub mod Union
pub mod Merging
pub mod Parts
pub mod Laws
pub mod Gathered
pub mod Adding
