mod Refused
pub mod Exact
