pub mod Rows
pub mod Kinds
pub mod Options
pub mod Call
pub mod Calls
