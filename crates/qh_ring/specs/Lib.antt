-- The definitions that contracts cite: numbers, matrices, states.
pub mod Numbers
pub mod Rows
pub mod Units
pub mod Matrices
pub mod States
pub mod Laws
