pub mod Speeches
pub mod Hearings
pub mod Echoes
