pub mod Frames
pub mod Tails
pub mod Spelled
pub mod Accepted
pub mod Found
pub mod Readings
