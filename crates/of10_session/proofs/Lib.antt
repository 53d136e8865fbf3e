pub mod Sendable
pub mod Drafts
pub mod Turns
pub mod Sent
