pub mod Progresses
pub mod Sessions
pub mod Replies
