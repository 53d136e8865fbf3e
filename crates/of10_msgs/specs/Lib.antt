pub mod Lengths
pub mod Messages
pub mod Refused
pub mod Sending
pub mod Readings
