mod Ranks
pub mod Sets
pub mod Tables
pub mod Samples
pub mod Theory
pub mod Faults
pub mod Whole
pub mod Steps
pub mod Loops
pub mod Refusals
pub mod Total
pub mod Exact
