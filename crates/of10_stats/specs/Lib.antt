pub mod Kinds
pub mod Counters
pub mod Entries
pub mod Queues
pub mod Requests
pub mod Replies
