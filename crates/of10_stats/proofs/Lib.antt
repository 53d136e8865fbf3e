pub mod Proper
pub mod CounterLaws
mod Told
pub mod EntryLaws
pub mod QueueLaws
pub mod KindLaws
pub mod RequestLaws
pub mod ReplyLaws
