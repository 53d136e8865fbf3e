pub mod Outputs
mod Checks
mod Logged
mod Starts
mod Broken
mod Answered
mod Yes
mod Exact
pub mod Replayed
