pub mod Notes
pub mod JournalText
