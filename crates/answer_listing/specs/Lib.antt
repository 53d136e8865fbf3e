pub mod Words
pub mod Counterexamples
pub mod Logs
