pub mod Cut
pub mod SameAsks
pub mod Taking
pub mod Replayed
pub mod OneText
