pub mod Markings
pub mod Orders
pub mod Joining
pub mod Settled
pub mod Named
pub mod Happened
pub mod SessionReplies
