pub mod Distincts
pub mod Inside
pub mod WordsAgain
pub mod FineLines
pub mod ReadBack
