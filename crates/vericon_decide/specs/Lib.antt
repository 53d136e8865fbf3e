pub mod Verdicts
pub mod Levels
pub mod Answers
pub mod Rounds
