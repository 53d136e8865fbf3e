pub mod Facts
pub mod Equality
pub mod Copies
pub mod Ground
pub mod Walk
