pub mod Journals
pub mod Refusals
pub mod Replays
pub mod Tellings
