pub mod Lowest
pub mod Outs
