pub mod Explaining
pub mod Giving
mod Opening
pub mod Writings
