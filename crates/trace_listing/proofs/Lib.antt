pub mod Runs
mod Ends
mod Marking
pub mod OneText
