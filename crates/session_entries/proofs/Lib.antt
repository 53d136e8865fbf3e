pub mod Adding
pub mod Staying
