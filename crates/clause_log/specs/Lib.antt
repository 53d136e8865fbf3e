pub mod Literals
pub mod LiteralNumbers
pub mod Assignments
pub mod Refutations
pub mod Limits
pub mod Rows
pub mod Values
